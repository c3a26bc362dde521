-- √area, nb and n are positive and consistent at every depth, and n is at least 1.
use Prim.Native.Nat.{ℕ, ◌+◌, ◌-◌, ◌*◌, ◌^◌, ◌≤◌, ◌<◌}
use mathlib.Core.{Path.{◌≡◌, refl}, Bool.{Bool, true, false, cond}}
use native.Mathlib.{Omega.{arith}, Nat.{mul-le-mul, mul-pos as nat-pos}}
use lib.{Dec.{lit≤}, IntN.{pos}}
use Rattle.exact.specs.{Fraction.{Fraction, ◌≤f◌, ◌<f◌, ◌≈f◌, whole, decimal, ◌+f◌, ◌·f◌, inv, ◌÷f◌, top}, Exact.{exactly, ◌·x◌, ◌÷x◌}}
use Rattle.exact.{specs.Reported.{ten, over}, proofs.{Order.{trans≤, refl≤, refl≈, le_of_lt, whole≤, whole_pos, nonneg}, Products.{mul≤}}}
use Rattle.exact.proofs.{Divisors.{expand}, Powers.{square}, Consistency.{consistent_exactly}, Roots.{consistent_root}}
use Rattle.exact.proofs.Positive.{AtLeast, at_least_exactly, at_least_times, positive_at_least}
use Rattle.exact.proofs.Bounded.{NotAbove, not_above_times, not_above_root, at_least_quotient, at_least_root}
use Rattle.exact.proofs.Quantity.{Quantity, quantity_exactly, quantity_product, quantity_quotient, quantity_root}
use Rattle.case.specs.{declared.Case.{Case}, Bounds.{Bounds}}
use Rattle.formulas.specs.Lengths.{D, Lx, Ly, Lp, area, equal_counts, √area, s, na, nb, n}
use Rattle.formulas.proofs.Positive.{decimal_pos, one_thousandth, add_pos, Lx-pos, Ly-pos, area_least, Lp-pos, na_least, na_pos}

-- a definition by two cases
pub by_place : {A : Type 0} (P : A → Type 0) (b : Bool) {x y : A} → (b ≡ true → P x) → (b ≡ false → P y) → P (cond b x y)
by_place P true h k = h refl
by_place P false h k = k refl

-- two definitions by one case
pub by_both : {A B : Type 0} (P : A → B → Type 0) (t : Bool) {x y : A} {x' y' : B} → (t ≡ true → P x x') → (t ≡ false → P y y')
    → P (cond t x y) (cond t x' y')
by_both P true f g = f refl
by_both P false f g = g refl

-- ---- the root of the area is not above half the perimeter

-- x and y in millimetres
area_below : (x y : ℕ) → 1 ≤ x → 1 ≤ y → 1000 ^ 2 * (x * y) < (x + y) ^ 2 * 10 ^ 6
area_below x y p q = rw (square (x + y)) (omega (arith, mul-le-mul p p))

top_decimal : (m e : ℕ) → top (decimal m e) ≡ m
unfolding top decimal
top_decimal m e = omega arith

-- 2q over 4q
half_ratio : {q : Fraction} → whole 0 <f q → decimal 5 1 ≤f (whole 2 ·f q) ÷f (whole 4 ·f q)
unfolding decimal whole inv ◌÷f◌ ◌·f◌
half_ratio {q} p = trans≤ half (expand (whole 2) (whole_pos (omega arith)) p (refl≈ _)).to
  where
    half : decimal 5 1 ≤f whole 2 ÷f whole 4
    half = record { le = lit≤ tt }

half_pos : whole 0 <f decimal 5 1
half_pos = decimal_pos 1 (omega arith)

twice_half : {q : Fraction} → whole 2 ≤f q → whole 1 ≤f q ·f decimal 5 1
unfolding decimal whole ◌·f◌
twice_half h = trans≤ one (mul≤ (le_of_lt half_pos) h)
  where
    one : whole 1 ≤f whole 2 ·f decimal 5 1
    one = record { le = lit≤ tt }

module _ {c : Case} (b : Bounds c) where
  x : ℕ
  x = (c.across - 1) * c.space

  y : ℕ
  y = (c.along - 1) * c.space

  x_pos : 1 ≤ x
  unfolding x
  x_pos = nat-pos (omega (arith, b.across.low)) (omega (arith, b.space.low))

  y_pos : 1 ≤ y
  unfolding y
  y_pos = nat-pos (omega (arith, b.along.low)) (omega (arith, b.space.low))

  half_perimeter_lem : Lx c +f Ly c ≈f over (pos (x + y)) (ten 3)
  unfolding Lx Ly D x y whole decimal over ten ◌+f◌ ◌·f◌
  half_perimeter_lem = omega arith

  area_is : area c ≈f decimal (x * y) 6
  unfolding area Lx Ly D x y whole decimal ◌·f◌
  area_is = omega arith

  pub quantity_√area : Quantity (√area c)
  unfolding √area
  quantity_√area = quantity_root 2 (omega arith) (one_thousandth (area_least b))

  √area_high : NotAbove (Lx c +f Ly c) (√area c)
  unfolding √area exactly ten decimal
  √area_high =
      let below : 1000 ^ 2 * (x * y) < (x + y) ^ 2 * 10 ^ 6 = area_below x y x_pos y_pos in
      record {
        most = λ k d.
            trans≤
            ((not_above_root 2 (decimal (x * y) 6) (x + y) (omega arith) (rw (top_decimal (x * y) 6) below)
            (record { most = λ j e. area_is.to })).most k d)
            half_perimeter_lem.fro;
      }

  -- ---- nb

  pub quantity_divisor : Quantity (exactly (whole 4) ·x √area c)
  quantity_divisor = quantity_product (quantity_exactly (whole_pos (omega arith))) quantity_√area

  pub quantity_ratio : Quantity (exactly (Lp c) ÷x (exactly (whole 4) ·x √area c))
  quantity_ratio = quantity_quotient (quantity_exactly (Lp-pos b)) quantity_divisor

  -- Lp/(4·√area) is at least a half
  ratio_least : AtLeast (decimal 5 1) (exactly (Lp c) ÷x (exactly (whole 4) ·x √area c))
  unfolding Lp
  ratio_least =
      record {
        least = λ k d.
            trans≤ (half_ratio (add_pos (Lx-pos b) (le_of_lt (Ly-pos b))))
            ((at_least_quotient (le_of_lt (Lp-pos b)) (consistent_exactly (Lp c)) quantity_divisor.consistent quantity_divisor.positive
            (at_least_exactly (refl≤ (Lp c))) (not_above_times (whole 4) (nonneg 4) quantity_√area.consistent √area_high)).least k d);
      }

  nb_least : AtLeast (decimal 5 1) (nb c)
  unfolding nb decimal over ten top
  nb_least =
      record {
        least = λ k d.
            trans≤ (record { le = lit≤ tt }) ((at_least_root _ (decimal 5 1) 500 (omega arith) (lit≤ tt) ratio_least).least k d);
      }

  pub quantity_nb : Quantity (nb c)
  unfolding nb
  quantity_nb =
      record { consistent = consistent_root _ (omega arith) quantity_ratio.consistent; positive = positive_at_least half_pos nb_least }

  -- ---- n

  pub n_least : AtLeast (whole 1) (n c)
  unfolding n
  n_least =
      by_place (AtLeast (whole 1)) (equal_counts c) (λ e. at_least_exactly (whole≤ (omega (arith, b.across.low))))
      (λ e.
      record {
        least = λ k d.
            trans≤ (twice_half (na_least b)) ((at_least_times (na c) (le_of_lt (na_pos b)) quantity_nb.consistent nb_least).least k d);
      })

  pub quantity_n : Quantity (n c)
  unfolding n
  quantity_n =
      by_place Quantity (equal_counts c) (λ e. quantity_exactly (whole_pos (omega (arith, b.across.low))))
      (λ e. quantity_product (quantity_exactly (na_pos b)) quantity_nb)

  -- s of the resistance
  pub quantity_s : Quantity (s c)
  unfolding s
  quantity_s = by_place Quantity (equal_counts c) (λ e. quantity_exactly (Lx-pos b)) (λ e. quantity_√area)
