-- The ends stay in order.
use lib.{IntN.{ℤ}, Signed.{≤ℤ_refl}}
use Rattle.interval.specs.Operations.{point, Ordered}

pub ordered_point : (z : ℤ) → Ordered (point z)
unfolding point
ordered_point z = record { ordered = ≤ℤ_refl z }
