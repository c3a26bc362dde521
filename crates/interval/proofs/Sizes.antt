-- How large the ends grow: what a caller shows so that an operation stays within 64 bits.
use Prim.Native.Nat.{ℕ, ◌+◌, ◌*◌, ◌≤◌, ◌<◌}
use mathlib.Core.Path.{◌≡◌, refl}
use native.Mathlib.{Omega.{arith}, Nat.{mul-le-mul, le_trans, le_of_eq}}
use lib.{IntN.{ℤ, pos, negsuc, nat_abs, ◌*ℤ◌}, Dec.{T}, Signed.{◌≤ℤ◌, non_neg, yes_non_neg}}
use Rattle.whole.{specs.{Signed.{plus, minus}, Whole.{min_z, max_z}}, proofs.Signed.{size_floor, le_halves, halves_le, size_is}}
use Rattle.whole.proofs.{Choice.{min_cases, max_cases}, Rounding.{size_ceil, size_floor_by, size_ceil_by}}
use Rattle.whole.proofs.Signed as signed
use Rattle.interval.specs.Operations.{natural, point, size, sum_of, difference_of, times_of, corners_of, outward_of, scaled_of, hull_of}
use Rattle.interval.specs.{Operations.{product_of}, declared.Interval.{Interval}}

pub size_lower : (a : Interval) → nat_abs a.lower ≤ size a
unfolding size
size_lower a = omega arith

pub size_upper : (a : Interval) → nat_abs a.upper ≤ size a
unfolding size
size_upper a = omega arith

module _ (a : Interval) {n : ℕ} (h : size a < n) where
  pub lower_below : nat_abs a.lower < n
  lower_below = omega (arith, size_lower a)

  pub upper_below : nat_abs a.upper < n
  upper_below = omega (arith, size_upper a)

size_ends : (a : Interval) {n : ℕ} → nat_abs a.lower ≤ n → nat_abs a.upper ≤ n → size a ≤ n
unfolding size
size_ends a h k = omega arith

pub size_natural : {a b : ℕ} → a ≤ b → size (natural a b) ≡ b
unfolding size natural
size_natural h = omega arith

pub size_point : (n : ℕ) → size (point (pos n)) ≡ n
unfolding size point
size_point n = omega arith

-- ---- a divisor above 0

pub positive_halves : (z : ℤ) → pos 1 ≤ℤ z → (plus z ≡ nat_abs z) × (minus z ≡ 0)
positive_halves (pos n) h = (refl, refl)
positive_halves (negsuc n) h = absurd h.le

module _ {z : ℤ} (h : pos 1 ≤ℤ z) where
  pub size_positive : 0 < nat_abs z
  size_positive = omega (arith, le_halves h, size_is z)

  pub positive_natural : T (non_neg z)
  positive_natural = yes_non_neg (halves_le (pos 0) z (omega (arith, le_halves h)))

  pub size_rises : {y : ℤ} → z ≤ℤ y → nat_abs z ≤ nat_abs y
  size_rises {y} k = omega (arith, le_halves h, le_halves k, size_is z, size_is y, positive_halves z h)

-- ---- sums, differences and products of ends

pub size_sum : (a b : Interval) → size (sum_of a b) ≤ size a + size b
unfolding sum_of
size_sum a b =
    size_ends _ (omega (arith, signed.size_sum a.lower b.lower, size_lower a, size_lower b))
    (omega (arith, signed.size_sum a.upper b.upper, size_upper a, size_upper b))

pub size_difference : (a b : Interval) → size (difference_of a b) ≤ size a + size b
unfolding difference_of
size_difference a b =
    size_ends _ (omega (arith, signed.size_difference a.lower b.upper, size_lower a, size_upper b))
    (omega (arith, signed.size_difference a.upper b.lower, size_upper a, size_lower b))

-- a product of two numbers within two sizes
pub size_factors : (x y : ℤ) {m n : ℕ} → nat_abs x ≤ m → nat_abs y ≤ n → nat_abs (x *ℤ y) ≤ m * n
size_factors x y h k = le_trans (le_of_eq (signed.size_product x y)) (mul-le-mul h k)

pub size_scaled : (a : Interval) (k : ℕ) → size (scaled_of a k) ≤ size a * k
unfolding scaled_of
size_scaled a k =
    size_ends _ (size_factors a.lower (pos k) (size_lower a) (omega arith))
    (size_factors a.upper (pos k) (size_upper a) (omega arith))

-- ---- the least and the greatest

module _ (x y : ℤ) {n : ℕ} (h : nat_abs x ≤ n) (k : nat_abs y ≤ n) where
  size_min : nat_abs (min_z x y) ≤ n
  size_min = min_cases (λ z. nat_abs z ≤ n) x y (λ _. h) (λ _. k)

  size_max : nat_abs (max_z x y) ≤ n
  size_max = max_cases (λ z. nat_abs z ≤ n) x y (λ _. k) (λ _. h)

pub size_times : (z : ℤ) (a : Interval) {n : ℕ} → nat_abs z ≤ n → size (times_of z a) ≤ n * size a
unfolding times_of
size_times z a h =
    let l = size_factors z a.lower h (size_lower a) in
    let u = size_factors z a.upper h (size_upper a) in
    size_ends _ (size_min _ _ l u) (size_max _ _ l u)

size_hull : (a b : Interval) {n : ℕ} → size a ≤ n → size b ≤ n → size (hull_of a b) ≤ n
unfolding hull_of
size_hull a b h k =
    size_ends _ (size_min _ _ (le_trans (size_lower a) h) (le_trans (size_lower b) k))
    (size_max _ _ (le_trans (size_upper a) h) (le_trans (size_upper b) k))

pub corners_hull : (a b : Interval) → corners_of a b ≡ hull_of (times_of a.lower b) (times_of a.upper b)
unfolding corners_of hull_of times_of
corners_hull a b = refl

pub size_corners : (a b : Interval) → size (corners_of a b) ≤ size a * size b
size_corners a b = rw corners_hull (size_hull _ _ (size_times a.lower b (size_lower a)) (size_times a.upper b (size_upper a)))

-- ---- division

pub size_outward : (a : Interval) (d : ℕ) → size (outward_of a d) ≤ size a
unfolding outward_of
size_outward a d = size_ends _ (le_trans (size_floor a.lower d) (size_lower a)) (le_trans (size_ceil a.upper d) (size_upper a))

pub size_product : (a b : Interval) (d : ℕ) → size (product_of a b d) ≤ size a * size b
unfolding product_of
size_product a b d = le_trans (size_outward (corners_of a b) d) (size_corners a b)

-- ---- with the divisor taken into account: w is a bound on the quotient

pub size_outward_by : (a : Interval) {d w : ℕ} → 0 < d → size a ≤ w * d → size (outward_of a d) ≤ w
unfolding outward_of
size_outward_by a {d} {w} t h =
    size_ends _ (size_floor_by a.lower t (le_trans (size_lower a) h)) (size_ceil_by a.upper t (le_trans (size_upper a) h))

pub size_product_by : (a b : Interval) {d w : ℕ} → 0 < d → size a * size b ≤ w * d → size (product_of a b d) ≤ w
unfolding product_of
size_product_by a b {d} {w} t h = size_outward_by (corners_of a b) t (le_trans (size_corners a b) h)
