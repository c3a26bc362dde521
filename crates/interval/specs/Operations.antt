-- §5.2: what the methods of an interval give: the exact ends, rounded outward.
use Rattle.std.specs.Prelude.{ℕ, ◌+◌, ◌≤◌, max}
use lib.{IntN.{ℤ, pos, nat_abs, neg_ℤ, ◌+ℤ◌, ◌-ℤ◌, ◌*ℤ◌}, Signed.{◌≤ℤ◌}}
use Rattle.whole.specs.{Signed.{plus, minus}, Whole.{floor_z, ceil_z, min_z, max_z}}
use Rattle.interval.specs.declared.Interval.{Interval}

-- both ends are natural numbers
unfoldable pub natural : ℕ → ℕ → Interval
natural a b = record { lower = pos a; upper = pos b }

-- both ends are one number
unfoldable pub point : ℤ → Interval
point z = record { lower = z; upper = z }

-- the larger of the ends' sizes: a bound on it keeps each operation within 64 bits
unfoldable pub size : Interval → ℕ
size a = max (nat_abs a.lower) (nat_abs a.upper)

unfoldable pub sum_of : Interval → Interval → Interval
sum_of a b = record { lower = a.lower +ℤ b.lower; upper = a.upper +ℤ b.upper }

unfoldable pub difference_of : Interval → Interval → Interval
difference_of a b = record { lower = a.lower -ℤ b.upper; upper = a.upper -ℤ b.lower }

-- minus a: the ends are exchanged
unfoldable pub minus_of : Interval → Interval
minus_of a = record { lower = neg_ℤ a.upper; upper = neg_ℤ a.lower }

-- z · a: below 0 the ends are exchanged
unfoldable pub times_of : ℤ → Interval → Interval
times_of z a = record { lower = min_z (z *ℤ a.lower) (z *ℤ a.upper); upper = max_z (z *ℤ a.lower) (z *ℤ a.upper) }

-- the least and the greatest of the four products of ends
unfoldable pub corners_of : Interval → Interval → Interval
corners_of a b =
    record {
      lower = min_z (min_z (a.lower *ℤ b.lower) (a.lower *ℤ b.upper)) (min_z (a.upper *ℤ b.lower) (a.upper *ℤ b.upper));
      upper = max_z (max_z (a.lower *ℤ b.lower) (a.lower *ℤ b.upper)) (max_z (a.upper *ℤ b.lower) (a.upper *ℤ b.upper));
    }

-- a / den, each end rounded outward
unfoldable pub outward_of : Interval → ℕ → Interval
outward_of a den = record { lower = floor_z a.lower den; upper = ceil_z a.upper den }

-- a · k
unfoldable pub scaled_of : Interval → ℕ → Interval
scaled_of a k = record { lower = a.lower *ℤ pos k; upper = a.upper *ℤ pos k }

-- the least pair with both inside
unfoldable pub hull_of : Interval → Interval → Interval
hull_of a b = record { lower = min_z a.lower b.lower; upper = max_z a.upper b.upper }

-- a · b / den
unfoldable pub product_of : Interval → Interval → ℕ → Interval
product_of a b den = outward_of (corners_of a b) den

-- a · scale / b, for b above 0
unfoldable pub quotient_of : Interval → Interval → ℕ → Interval
quotient_of a b scale = hull_of (outward_of (scaled_of a scale) (nat_abs b.lower)) (outward_of (scaled_of a scale) (nat_abs b.upper))

-- the lower end is not above the upper
pub record Ordered (a : Interval) : Type 0 where
  pub ordered : a.lower ≤ℤ a.upper

-- the ends are at most n apart
pub record Narrow (a : Interval) (n : ℕ) : Type 0 where
  pub narrow : plus a.upper + minus a.lower ≤ plus a.lower + minus a.upper + n
