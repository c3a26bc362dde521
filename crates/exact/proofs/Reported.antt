-- Signed whole numbers of a unit, as the program reports them, against fractions. A number is read by its halves, so that its facts
-- are ℕ's.
use Prim.Native.Nat.{ℕ, ◌*◌, ◌<◌}
use mathlib.Core.Path.{◌≡◌, ap, ◌∙◌}
use native.Mathlib.{Omega.{arith}, Nat.{mul-le-mul_right, mul-lt-mul_of_pos_right, mul-pos}}
use lib.{IntN.{ℤ, pos, neg_ℤ, ◌+ℤ◌, ◌-ℤ◌, ◌*ℤ◌}, Signed.{◌≤ℤ◌, ◌<ℤ◌}}
use Rattle.whole.specs.{Signed.{plus, minus}, Whole.{floor_z}}
use Rattle.whole.proofs.Signed.{neg_plus, neg_minus, sum_is, difference_is, mul_plus, mul_minus, scale_plus, scale_minus, le_halves}
use Rattle.whole.proofs.Signed.{lt_halves, floor_below}
use Rattle.interval.specs.declared.Interval.{Interval}
use Rattle.exact.specs.Fraction.{◌≤f◌, ◌<f◌, ◌≈f◌, whole, decimal, ◌+f◌, neg, ◌−f◌, ◌·f◌, inv, ◌÷f◌}
use Rattle.exact.specs.{Reported.{Scale, ten, over, reported}, Depth.{Positive}}
use Rattle.exact.proofs.{Order.{trans≤, refl≈}, Products.{cong·}}

-- the unit of a product
abbrev pub scale_product : Scale → Scale → Scale
scale_product u v = record { count = u.count * v.count; positive = mul-pos u.positive v.positive }

-- ---- one unit

pub over≤ : {a b : ℤ} (u : Scale) → a ≤ℤ b → over a u ≤f over b u
unfolding over
over≤ u h = omega (arith, mul-le-mul_right u.count (le_halves h))

pub over< : {a b : ℤ} (u : Scale) → a <ℤ b → over a u <f over b u
unfolding over
over< u h = omega (arith, mul-lt-mul_of_pos_right (lt_halves h) u.positive)

pub over_neg : (z : ℤ) (u : Scale) → over (neg_ℤ z) u ≈f neg (over z u)
unfolding over neg
over_neg z u = omega (arith, ap (λ t. t * u.count) (neg_plus z), ap (λ t. t * u.count) (neg_minus z))

pub over_sum : (a b : ℤ) (u : Scale) → over (a +ℤ b) u ≈f over a u +f over b u
unfolding over ◌+f◌
over_sum a b u = omega (arith, ap (λ t. t * (u.count * u.count)) (sum_is a b))

pub over_difference : (a b : ℤ) (u : Scale) → over (a -ℤ b) u ≈f over a u −f over b u
unfolding over ◌−f◌ ◌+f◌ neg
over_difference a b u = omega (arith, ap (λ t. t * (u.count * u.count)) (difference_is a b))

pub decimal_over : (n e : ℕ) → decimal n e ≈f over (pos n) (ten e)
unfolding over decimal ten
decimal_over n e = omega arith

-- ---- two units

pub over_mul : (a b : ℤ) (u v : Scale) → over (a *ℤ b) (scale_product u v) ≈f over a u ·f over b v
unfolding over ◌·f◌
over_mul a b u v = omega (arith, ap (λ t. t * (u.count * v.count)) (mul_plus a b), ap (λ t. t * (u.count * v.count)) (mul_minus a b))

-- rounded down: w is m times as fine as u
module _ (z : ℤ) (u w : Scale) {m : ℕ} (hm : 0 < m) (fine : w.count ≡ u.count * m) where
  scaled : (n : ℕ) → n * w.count ≡ n * m * u.count
  scaled n = ap (λ t. n * t) fine ∙ omega arith

  pub over_down : over (floor_z z m) u ≤f over z w
  unfolding over
  over_down = omega (arith, mul-le-mul_right u.count (floor_below z hm), scaled (plus (floor_z z m)), scaled (minus (floor_z z m)))

-- ---- comparisons by whole numbers alone (≤ℤ binds tighter than *ℤ: mind the parentheses)

module _ (a b : ℤ) (u v : Scale) where
  halves_scaled : (z : ℤ) (k : ℕ) → (plus (z *ℤ pos k) ≡ plus z * k) × (minus (z *ℤ pos k) ≡ minus z * k)
  halves_scaled z k = (scale_plus z k, scale_minus z k)

  pub over_compare : (a *ℤ pos v.count) ≤ℤ (b *ℤ pos u.count) → over a u ≤f over b v
  unfolding over
  over_compare h = omega (arith, le_halves h, halves_scaled a v.count, halves_scaled b u.count)

-- z of unit w against the product of a of u and b of v
module _ (a b z : ℤ) (u v w : Scale) where
  pub product_low : (z *ℤ pos (u.count * v.count)) ≤ℤ ((a *ℤ b) *ℤ pos w.count) → over z w ≤f over a u ·f over b v
  product_low h = trans≤ (over_compare z (a *ℤ b) w (scale_product u v) h) (over_mul a b u v).to

  pub product_high : ((a *ℤ b) *ℤ pos w.count) ≤ℤ (z *ℤ pos (u.count * v.count)) → over a u ·f over b v ≤f over z w
  product_high h = trans≤ (over_mul a b u v).fro (over_compare (a *ℤ b) z (scale_product u v) w h)

-- z of unit w against the quotient of a of u by c of v
module _ (a z : ℤ) {c : ℕ} (hc : 0 < c) (u v w : Scale) where
  divisor : Scale
  divisor = record { count = c; positive = hc }

  inverse : inv (over (pos c) v) ≈f over (pos v.count) divisor
  unfolding over inv divisor
  inverse =
      let e : (inv (over (pos c) v)).den ≡ c = omega arith in
      omega (arith, ap (λ t. v.count * t) e)

  as_product : over a u ÷f over (pos c) v ≈f over a u ·f over (pos v.count) divisor
  unfolding ◌÷f◌
  as_product = cong· (refl≈ (over a u)) inverse

  pub quotient_low : (z *ℤ pos (u.count * c)) ≤ℤ ((a *ℤ pos v.count) *ℤ pos w.count) → over z w ≤f over a u ÷f over (pos c) v
  unfolding divisor
  quotient_low h = trans≤ (product_low a (pos v.count) z u divisor w h) as_product.fro

  pub quotient_high : ((a *ℤ pos v.count) *ℤ pos w.count) ≤ℤ (z *ℤ pos (u.count * c)) → over a u ÷f over (pos c) v ≤f over z w
  unfolding divisor
  quotient_high h = trans≤ as_product.to (product_high a (pos v.count) z u divisor w h)

-- ---- reported pairs

pub reported_positive : (i : Interval) (u : Scale) → pos 0 <ℤ i.lower → Positive (reported u i)
unfolding reported whole over
reported_positive i u h = record { positive = record { lt = omega (arith, lt_halves h, u.positive) } }
