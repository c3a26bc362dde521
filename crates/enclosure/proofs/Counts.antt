-- Counts of one unit against counts of another: scaled, rounded down and rounded up.
use Prim.Native.Nat.{ℕ, zero, suc, ◌*◌, ◌<◌}
use mathlib.Core.Path.{◌≡◌, ap, sym, ◌∙◌}
use native.Mathlib.{Omega.{arith}, Nat.{mul-le-mul_right, le_of_mul-le-mul_right}}
use lib.{IntN.{ℤ, pos, ◌*ℤ◌}, Signed.{◌≤ℤ◌}}
use Rattle.whole.{specs.{Signed.{plus, minus}, Whole.{floor_z, ceil_z}}, proofs.Signed.{scale_plus, scale_minus, halves_le}}
use Rattle.whole.proofs.Rounding.{ceil_above}
use Rattle.exact.{specs.{Fraction.{Fraction, ◌≤f◌, ◌≈f◌, whole, decimal, ◌·f◌}, Reported.{Scale, ten, over}}, proofs.Order.{sym≈, trans≈}}
use Rattle.exact.proofs.{Products.{cong·}, Reported.{scale_product, over_down, over_mul}}

-- the order of counts is that of their values
pub over_le : {a b : ℤ} (u : Scale) → over a u ≤f over b u → a ≤ℤ b
unfolding over
over_le {a} {b} u h = halves_le a b (le_of_mul-le-mul_right (omega (arith, h.le)) u.positive)

-- a factor that makes one scale of another is above 0
pub factor_positive : (u w : Scale) {m : ℕ} → w.count * m ≡ u.count → 0 < m
factor_positive u w {m = zero} e = absurd (omega (arith, u.positive))
factor_positive u w {m = suc m} e = omega arith

-- k times as many of one unit
pub over_times : (z : ℤ) (u : Scale) (k : ℕ) → over (z *ℤ pos k) u ≈f whole k ·f over z u
unfolding over whole ◌·f◌
over_times z u k = omega (arith, ap (λ t. t * u.count) (scale_plus z k), ap (λ t. t * u.count) (scale_minus z k))

-- divided, with the scale
module _ (z : ℤ) (u w : Scale) (m : ℕ) (e : w.count * m ≡ u.count) where
  pub over_floor : over (floor_z z m) w ≤f over z u
  over_floor = over_down z w u (factor_positive u w e) (sym e)

  scaled : (n : ℕ) → n * m * w.count ≡ n * u.count
  scaled n = omega arith ∙ ap (λ t. n * t) e

  pub over_ceil : over z u ≤f over (ceil_z z m) w
  unfolding over
  over_ceil =
      let q : ℤ = ceil_z z m in
      omega (arith, mul-le-mul_right w.count (ceil_above z (factor_positive u w e)), scaled (plus q), scaled (minus q))

-- ---- fractions as counts: `q ≈f over (pos n) u`

pub whole_count : (n : ℕ) {m : ℕ} (u : Scale) → m ≡ n * u.count → whole n ≈f over (pos m) u
unfolding whole over
whole_count n u e = omega arith

-- at a finer scale than its own
pub decimal_count : (n e k : ℕ) {m : ℕ} (u : Scale) → (ten e).count * k ≡ u.count → m ≡ n * k → decimal n e ≈f over (pos m) u
unfolding decimal over ten
decimal_count n e k {m} u f g = omega (arith, ap (λ t. n * t) f, ap (λ t. t * (ten e).count) g)

pub count_product : {p q : Fraction} (a b : ℕ) (u v : Scale) → p ≈f over (pos a) u → q ≈f over (pos b) v
    → p ·f q ≈f over (pos (a * b)) (scale_product u v)
count_product a b u v h k = trans≈ (cong· h k) (sym≈ (over_mul (pos a) (pos b) u v))
