-- The two forms of G in §4.6 are equal.
use Prim.Native.Nat.{ℕ, ◌+◌, ◌*◌, ◌^◌, ◌<◌}
use mathlib.Core.Path.{◌≡◌, ap}
use native.Mathlib.{Omega.{arith}, Nat.{mul-pos}}
use Rattle.exact.specs.Fraction.{Fraction, ◌<f◌, ◌≈f◌, whole, decimal, ◌+f◌, neg, ◌−f◌, ◌·f◌, ◌÷f◌}
use Rattle.exact.proofs.{Order.{lt_of_lt_of_le, refl≈, sym≈, trans≈, whole_pos}, Sums.{cong+, cong−}, Products.{cong·, mul-pos as mul-posf}}
use Rattle.exact.proofs.Divisors.{cong÷, expand, add_over, sub_over}
use Rattle.case.specs.{declared.Case.{Case}, Bounds.{Bounds}}
use Rattle.formulas.specs.{Lengths.{D, h, d}, Mesh.{G, G'}}
use Rattle.formulas.proofs.Positive.{D_pos, h_pos, d_pos, G'_pos}

-- D³ + (D+2h)²·2h − h·4hD is (D+2h)(D²+4h²), for D = x/m and h = y/m: each part is brought to a number over m, m² or m³
part : (m : ℕ) → 0 < m → ℕ → Fraction
part m p a = record { plus = a; minus = 0; den = m; positive = p }

gather : (m : ℕ) (p : 0 < m) (x y z w : ℕ) → x + y ≡ w + z → part m p x +f part m p y −f part m p z ≈f part m p w
unfolding part ◌+f◌ ◌−f◌ neg
gather m p x y z w e = omega (arith, ap (λ t. t * (m * m * m)) e)

module _ (m : ℕ) (p : 0 < m) where
  first : ℕ → Fraction
  first = part m p

  second : ℕ → Fraction
  second = part (m * m) (mul-pos p p)

  third : ℕ → Fraction
  third = part (m * m * m) (mul-pos (mul-pos p p) p)

  triple : (a b c : ℕ) → first a ·f first b ·f first c ≈f third (a * b * c)
  unfolding first third part ◌·f◌
  triple a b c = omega arith

  pair : (a b : ℕ) → first a ·f second b ≈f third (a * b)
  unfolding first second third part ◌·f◌
  pair a b = omega arith

  twice : (a : ℕ) → whole 2 ·f first a ≈f first (2 * a)
  unfolding first part whole ◌·f◌
  twice a = omega arith

  with_twice : (a b : ℕ) → first a +f whole 2 ·f first b ≈f first (a + 2 * b)
  unfolding first part whole ◌·f◌ ◌+f◌
  with_twice a b = omega arith

  squares : (a b : ℕ) → first a ·f first a +f whole 4 ·f (first b ·f first b) ≈f second (a * a + 4 * (b * b))
  unfolding first second part whole ◌·f◌ ◌+f◌
  squares a b = omega arith

  fourfold : (a b : ℕ) → first b ·f (whole 4 ·f first b ·f first a) ≈f third (4 * (a * b * b))
  unfolding first third part whole ◌·f◌
  fourfold a b = omega arith

  cube_sum : (x y : ℕ)
      → first x ·f first x ·f first x +f (first x +f whole 2 ·f first y) ·f (first x +f whole 2 ·f first y) ·f (whole 2 ·f first y)
      −f first y ·f (whole 4 ·f first y ·f first x)
      ≈f (first x +f whole 2 ·f first y) ·f (first x ·f first x +f whole 4 ·f (first y ·f first y))
  unfolding third
  cube_sum x y =
      let s : first x +f whole 2 ·f first y ≈f first (x + 2 * y) = with_twice x y in
      trans≈
      (cong− (cong+ (triple x x x) (trans≈ (cong· (cong· s s) (twice y)) (triple (x + 2 * y) (x + 2 * y) (2 * y)))) (fourfold x y))
      (trans≈
      (gather (m * m * m) (mul-pos (mul-pos p p) p) (x * x * x) ((x + 2 * y) * (x + 2 * y) * (2 * y)) (4 * (x * y * y))
      ((x + 2 * y) * (x * x + 4 * (y * y))) (omega arith))
      (sym≈ (trans≈ (cong· s (squares x y)) (pair (x + 2 * y) (x * x + 4 * (y * y))))))

module _ {c : Case} (b : Bounds c) where
  divisor : Fraction
  divisor = whole 16 ·f h c ·f d c ·f D c

  first_term : D c ·f D c ÷f (whole 16 ·f h c ·f d c) ≈f D c ·f D c ·f D c ÷f divisor
  unfolding divisor
  first_term = expand _ (mul-posf (mul-posf (whole_pos (omega arith)) (h_pos b)) (d_pos b)) (D_pos b) (refl≈ _)

  second_divisor : whole 8 ·f D c ·f d c ·f (whole 2 ·f h c) ≈f divisor
  unfolding divisor D h d decimal whole ◌·f◌
  second_divisor = omega arith

  third_divisor : whole 4 ·f d c ·f (whole 4 ·f h c ·f D c) ≈f divisor
  unfolding divisor D h d decimal whole ◌·f◌
  third_divisor = omega arith

  numerator :
      D c ·f D c ·f D c +f (D c +f whole 2 ·f h c) ·f (D c +f whole 2 ·f h c) ·f (whole 2 ·f h c) −f h c ·f (whole 4 ·f h c ·f D c)
      ≈f (D c +f whole 2 ·f h c) ·f (D c ·f D c +f whole 4 ·f (h c ·f h c))
  unfolding D h decimal first part
  numerator = cube_sum (10 ^ 3) (decimal 1 3).positive c.space c.depth

  pub G_forms : G c ≈f G' c
  unfolding G G' divisor
  G_forms =
      let pD : whole 0 <f D c = D_pos b in
      let ph : whole 0 <f h c = h_pos b in
      let pd : whole 0 <f d c = d_pos b in
      let second-term = expand ((D c +f whole 2 ·f h c) ·f (D c +f whole 2 ·f h c)) (mul-posf (mul-posf (whole_pos (omega arith)) pD) pd)
      (mul-posf (whole_pos (omega arith)) ph) second_divisor in
      let third-term =
      expand (h c) (mul-posf (whole_pos (omega arith)) pd) (mul-posf (mul-posf (whole_pos (omega arith)) ph) pD) third_divisor in
      trans≈ (cong− (trans≈ (cong+ first_term second-term) (add_over _ _ _)) third-term)
      (trans≈ (sub_over _ _ _)
      (cong÷ (mul-posf (mul-posf (mul-posf (whole_pos (omega arith)) ph) pd) pD) numerator (refl≈ _)))

  pub G_pos : whole 0 <f G c
  G_pos = lt_of_lt_of_le (G'_pos b) G_forms.fro
