-- The operations on intervals of naturals, whose ends are in order: each end by naturals alone.
use Prim.Native.Nat.{ℕ, zero, suc, ◌+◌, ◌-◌, ◌*◌, ◌/◌, ◌≤◌, ◌<◌}
use mathlib.Core.Path.{◌≡◌, refl, ap}
use native.Mathlib.{Omega.{arith}, Nat.{mul-le-mul_left, mul-le-mul_right}}
use borrow.Author.Tests.{le-ltb}
use lib.IntN.{pos, ◌-ℤ◌}
use Rattle.whole.{specs.Whole.{ceil_div}, proofs.Choice.{min_rising, max_rising, min_falling, max_falling}}
use Rattle.whole.proofs.Rounding.{floor_pos, ceil_pos, floor_div_falls, ceil_div_falls}
use Rattle.interval.specs.Operations.{natural, point, sum_of, difference_of, corners_of, outward_of, scaled_of, hull_of, product_of}
use Rattle.interval.specs.Operations.{quotient_of}

pub point_natural : (n : ℕ) → point (pos n) ≡ natural n n
unfolding point natural
point_natural n = refl

pub natural_sum : (a b c d : ℕ) → sum_of (natural a b) (natural c d) ≡ natural (a + c) (b + d)
unfolding sum_of natural
natural_sum a b c d = refl

-- of two naturals of which the second is not above the first
pub sub_pos : (m n : ℕ) → n ≤ m → pos m -ℤ pos n ≡ pos (m - n)
sub_pos m zero h = let e : m + 0 ≡ m - 0 = omega arith in ap pos e
sub_pos m (suc n) h = rw (le-ltb m (suc n) h)

pub natural_difference : (a b c d : ℕ) → d ≤ a → c ≤ b → difference_of (natural a b) (natural c d) ≡ natural (a - d) (b - c)
unfolding difference_of natural
natural_difference a b c d h k = cc (sub_pos a d h, sub_pos b c k)

pub natural_scaled : (a b k : ℕ) → scaled_of (natural a b) k ≡ natural (a * k) (b * k)
unfolding scaled_of natural
natural_scaled a b k = refl

pub natural_outward : (a b : ℕ) {den : ℕ} → 0 < den → outward_of (natural a b) den ≡ natural (a / den) (ceil_div b den)
unfolding outward_of natural
natural_outward a b h = cc (floor_pos a h, ceil_pos b h)

module _ {a b c d : ℕ} (ab : a ≤ b) (cd : c ≤ d) where
  natural_corners : corners_of (natural a b) (natural c d) ≡ natural (a * c) (b * d)
  unfolding corners_of natural
  natural_corners =
      cc (
        min_rising (mul-le-mul_left a cd),
        min_rising (mul-le-mul_left b cd),
        min_rising (mul-le-mul_right c ab),
        max_rising (mul-le-mul_left a cd),
        max_rising (mul-le-mul_left b cd),
        max_rising (mul-le-mul_right d ab),
      )

  pub natural_product : {den : ℕ} → 0 < den → product_of (natural a b) (natural c d) den ≡ natural (a * c / den) (ceil_div (b * d) den)
  unfolding product_of
  natural_product h = rw natural_corners (natural_outward (a * c) (b * d) h)

-- the ends of the divisor cross
pub natural_quotient : (a b : ℕ) {c d : ℕ} (k : ℕ) → 0 < c → c ≤ d
    → quotient_of (natural a b) (natural c d) k ≡ natural (a * k / d) (ceil_div (b * k) c)
unfolding quotient_of hull_of outward_of scaled_of natural
natural_quotient a b {c} {d} k hc cd =
    cc (
      floor_pos (a * k) hc,
      floor_pos (a * k) {d = d} (omega arith),
      ceil_pos (b * k) hc,
      ceil_pos (b * k) {d = d} (omega arith),
      min_falling (floor_div_falls (a * k) hc cd),
      max_falling (ceil_div_falls (b * k) hc cd),
    )
