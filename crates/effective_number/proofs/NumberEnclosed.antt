-- The ends of n and Ki include the exact values' ends. The spacing D stands in Lp and in √area and cancels in their quotient.
use Prim.Native.Nat.{ℕ, ◌+◌, ◌*◌, ◌/◌, ◌^◌, ◌≤◌, ◌<◌}
use mathlib.Core.Path.{◌≡◌, refl, ap}
use native.Mathlib.{Omega.{arith}, Nat.{mul-div-mul_left, mul-le-mul_right, mul-lt-mul_of_pos_right, mul-pos as nat-pos}}
use Rattle.interval.specs.{Root.{IsRoot}, Operations.{natural, point, quotient_of}}
use Rattle.interval.proofs.Natural.{point_natural, natural_scaled, natural_outward, natural_quotient}
use Rattle.whole.{specs.Whole.{ceil_div}, proofs.{Choice.{pos≤}, Rounding.{floor_div_below, ceil_div_above, ceil_div_cancel}}}
use Rattle.exact.specs.{Fraction.{◌≤f◌, ◌<f◌, ◌≈f◌, whole, decimal, ◌+f◌, ◌·f◌, inv, ◌÷f◌}, Exact.{exactly, ◌·x◌, ◌÷x◌}}
use Rattle.exact.{specs.Reported.{ten, over}, proofs.{Powers.{square}, Order.{trans≤, refl≈, sym≈, trans≈, le_of_lt, whole_pos}}}
use Rattle.exact.proofs.{Products.{cong·}, Quotients.{clamped}, Divisors.{cong÷, expand}}
use Rattle.exact.proofs.{Consistency.{consistent_exactly, consistent_product}, Reported.{decimal_over}}
use lib.{Dec.{eqb, lit≤, lit<}, IntN.{pos}}
use Rattle.enclosure.{specs.{Enclosure.{Encloses}, SquareRoot.{square_root}}, proofs.SquareRoot.{square_root_lem}}
use Rattle.enclosure.proofs.{Basics.{encloses_count, encloses_whole, encloses_decimal}, Sums.{encloses_sum, encloses_times}}
use Rattle.enclosure.proofs.{Quotients.{encloses_quotient}, Roots.{encloses_root}, Multiples.{encloses_rounded, encloses_multiple}}
use Rattle.case.specs.{declared.Case.{Case}, Bounds.{Bounds}}
use Rattle.formulas.specs.Lengths.{D, Lx, Ly, Lc, Lp, area, √area, na, nb, n, Ki}
use Rattle.formulas.proofs.{Conductors.{by_both, quantity_√area, quantity_divisor, quantity_nb, quantity_n}, Positive.{Lp-pos, na_pos}}
use Rattle.effective_number.specs.Counts.{Counts, spacings, half_perimeter, meshes}
use Rattle.effective_number.specs.Number.{ratio_low, ratio_high, mesh_root, nb_ends, product_ends, n_ends, ki_ends}
use Rattle.effective_number.proofs.{Table.{roots_known}, NumberSpans.{half_bounds, mesh_root_is}}

pub counts : {c : Case} → Bounds c → Counts c.across c.along
counts b = record { across = b.across; along = b.along }

-- p/q of x in 10^−9 against X and Y in 10^−7
module _ (p q x : ℕ) (h : 0 < q) where
  share_low : (X : ℕ) → X * (100 * q) ≤ x * p → over (pos X) (ten 7) ≤f (whole p ÷f whole q) ·f over (pos x) (ten 9)
  unfolding whole over ten inv ◌÷f◌ ◌·f◌
  share_low X k = record { le = omega (arith, ap (λ t. X * t) (clamped h), k) }

  share_high : (Y : ℕ) → x * p ≤ Y * (100 * q) → (whole p ÷f whole q) ·f over (pos x) (ten 9) ≤f over (pos Y) (ten 7)
  unfolding whole over ten inv ◌÷f◌ ◌·f◌
  share_high Y k = record { le = omega (arith, ap (λ t. Y * t) (clamped h), k) }

module _ {c : Case} (b : Bounds c) where
  abbrev a : ℕ
  a = c.across

  abbrev l : ℕ
  l = c.along

  abbrev s : ℕ
  s = c.space

  s_pos : 0 < s
  s_pos = omega (arith, b.space.low)

  -- ---- the lengths by the spacing, in millimetres

  perimeter_is : Lp c ≈f over (pos (2 * half_perimeter a l * s)) (ten 3)
  unfolding Lp Lx Ly D half_perimeter whole decimal over ten ◌+f◌ ◌·f◌
  perimeter_is = omega arith

  area_is : area c ≈f over (pos (meshes a l * (s * s))) (ten 6)
  unfolding area Lx Ly D meshes whole decimal over ten ◌·f◌
  area_is = omega arith

  conductors_is : Lc c ≈f over (pos (spacings a l * s)) (ten 3)
  unfolding Lc Lx Ly D spacings whole decimal over ten ◌+f◌ ◌·f◌
  conductors_is = omega arith

  -- ---- √area, in 10^−11 m

  abbrev r : ℕ
  r = mesh_root a l

  mesh_root_lem : IsRoot (meshes a l * 10 ^ 16) r
  unfolding mesh_root
  mesh_root_lem = square_root_lem (meshes a l * 10 ^ 16)

  root_encloses : Encloses (√area c) (ten 11) (natural (s * r) (s * (r + 1)))
  unfolding √area ten
  root_encloses =
      let m = meshes a l * (s * s) in
      encloses_root 2 (ten 11) {v = ten 6} m m (s * r) (s * (r + 1)) 10 (lit≤ tt) refl
      (rw (square (s * r), square (10 ^ 11)) (omega (arith, mul-le-mul_right (s * s) mesh_root_lem.low)))
      (rw (square (s * (r + 1)), square (10 ^ 11)) (omega (arith, mul-lt-mul_of_pos_right mesh_root_lem.high (nat-pos s_pos s_pos))))
      (rw point_natural at (encloses_count (pos m) (ten 6) area_is))

  -- ---- Lp/(4·√area): D cancels

  abbrev half : ℕ
  half = half_perimeter a l

  half_pos : 0 < half
  half_pos = omega (arith, (half_bounds (counts b)).low)

  r_pos : 1 ≤ r
  r_pos = rw (mesh_root_is (counts b)) (roots_known (counts b)).some

  low_pos : 0 < s * r * 4
  low_pos = nat-pos (nat-pos s_pos r_pos) (lit< tt)

  quotient_encloses : Encloses (exactly (Lp c) ÷x (exactly (whole 4) ·x √area c)) (ten 9)
      (quotient_of (point (pos (2 * half * s))) (natural (s * r * 4) (s * (r + 1) * 4)) (10 ^ 17))
  unfolding ten natural
  quotient_encloses =
      encloses_quotient (ten 9) (10 ^ 17) refl (pos≤ low_pos) (consistent_exactly (Lp c)) (quantity_divisor b).consistent
      (encloses_count (pos (2 * half * s)) (ten 3) perimeter_is)
      (rw natural_scaled at (encloses_times 4 (quantity_√area b).consistent root_encloses))

  -- half 10^17 / 2r, both widened by 2s
  widened : (t : ℕ) → 2 * half * s * t ≡ 2 * s * (half * t)
  widened t = omega arith

  divisor_widened : (t : ℕ) → s * t * 4 ≡ 2 * s * (2 * t)
  divisor_widened t = omega arith

  ratio_is : quotient_of (point (pos (2 * half * s))) (natural (s * r * 4) (s * (r + 1) * 4)) (10 ^ 17)
      ≡ natural (ratio_low half r) (ratio_high half r)
  ratio_is =
      let m : 0 < 2 * s = omega (arith, s_pos) in
      let low : 2 * half * s * 10 ^ 17 / (s * (r + 1) * 4) ≡ ratio_low half r
      = rw (widened (10 ^ 17), divisor_widened (r + 1)) (mul-div-mul_left (half * 10 ^ 17) (2 * (r + 1)) m) in
      let high : ceil_div (2 * half * s * 10 ^ 17) (s * r * 4) ≡ ratio_high half r
      = rw (widened (10 ^ 17), divisor_widened r) (ceil_div_cancel (half * 10 ^ 17) (2 * r) m (omega (arith, r_pos))) in
      rw (
        point_natural (2 * half * s),
        natural_quotient (2 * half * s) (2 * half * s) {c = s * r * 4} {d = s * (r + 1) * 4} (10 ^ 17)
            low_pos (omega arith),
        low,
        high,
      )

  ratio_encloses : Encloses (exactly (Lp c) ÷x (exactly (whole 4) ·x √area c)) (ten 9) (natural (ratio_low half r) (ratio_high half r))
  ratio_encloses = rw ratio_is at quotient_encloses

  doubled : (m : ℕ) → whole 2 ·f over (pos (m * s)) (ten 3) ≈f whole m ·f over (pos (2 * s)) (ten 3)
  unfolding whole over ten ◌·f◌
  doubled m = omega arith

  halved : (m : ℕ) → over (pos (2 * m * s)) (ten 3) ≈f whole m ·f over (pos (2 * s)) (ten 3)
  unfolding whole over ten ◌·f◌
  halved m = omega arith

  double_pos : whole 0 <f over (pos (2 * s)) (ten 3)
  unfolding whole over
  double_pos = omega (arith, s_pos)

  -- ---- nb

  nb_encloses : Encloses (nb c) (ten 9) (nb_ends a l)
  unfolding nb nb_ends ten
  nb_encloses =
      let x = ratio_low half r in
      let y = ratio_high half r in
      encloses_root 2 (ten 9) x y (square_root (x * 10 ^ 9)) (square_root (y * 10 ^ 9) + 1) 1000 (lit≤ tt) refl
      (rw (square (square_root (x * 10 ^ 9)), square (10 ^ 9)) (omega (arith, (square_root_lem (x * 10 ^ 9)).low)))
      (rw (square (square_root (y * 10 ^ 9) + 1), square (10 ^ 9)) (omega (arith, (square_root_lem (y * 10 ^ 9)).high)))
      ratio_encloses

  -- ---- n

  pub na_is : na c ≈f whole (spacings c.across c.along) ÷f whole (half_perimeter c.across c.along)
  unfolding na
  na_is =
      let double = over (pos (2 * s)) (ten 3) in
      let top : whole 2 ·f Lc c ≈f whole (spacings a l) ·f double =
      trans≈ (cong· (refl≈ (whole 2)) conductors_is) (doubled (spacings a l)) in
      let bottom : Lp c ≈f whole (half_perimeter a l) ·f double = trans≈ perimeter_is (halved (half_perimeter a l)) in
      let pd : whole 0 <f double = double_pos in
      let ph : whole 0 <f whole (half_perimeter a l) = whole_pos half_pos in
      trans≈ (cong÷ (Lp-pos b) top bottom) (sym≈ (expand (whole (spacings a l)) ph pd (refl≈ _)))

  product_encloses : Encloses (exactly (na c) ·x nb c) (ten 7) (product_ends a l)
  unfolding product_ends nb_ends natural
  product_encloses =
      let p : 0 < 100 * half = omega (arith, half_pos) in
      let x = square_root (ratio_low half r * 10 ^ 9) in
      let y = square_root (ratio_high half r * 10 ^ 9) + 1 in
      let m = spacings a l in
      rw (natural_scaled x y m, natural_outward (x * m) (y * m) p)
      (encloses_rounded (na c) (le_of_lt (na_pos b))
      (trans≤ (share_low m half x half_pos (x * m / (100 * half)) (floor_div_below (x * m) (100 * half))) (cong· (sym≈ na_is) (refl≈ _)).to)
      (trans≤ (cong· na_is (refl≈ _)).to (share_high m half y half_pos (ceil_div (y * m) (100 * half)) (ceil_div_above (y * m) p)))
      (quantity_nb b).consistent nb_encloses)

  pub n_encloses : Encloses (n c) (ten 7) (n_ends c.across c.along)
  unfolding n n_ends ten
  n_encloses =
      by_both (λ x i. Encloses x (ten 7) i) (eqb c.across c.along) (λ e. encloses_whole c.across (ten 7) refl)
      (λ e. product_encloses)

  -- ---- Ki

  pub Ki-encloses : Encloses (Ki c) (ten 10) (ki_ends (n_ends c.across c.along))
  unfolding Ki ki_ends ten
  Ki-encloses =
      let q = quantity_n b in
      encloses_sum (consistent_exactly _) (consistent_product (consistent_exactly _) q.consistent)
      (encloses_decimal 644 3 10000000 (ten 10) refl refl)
      (encloses_multiple 148 (ten 3) (ten 10) refl (decimal_over 148 3) q.consistent n_encloses)
