-- The ends of π (§5.4) in 10^−9.
use Rattle.std.specs.Prelude.{ℕ}
use Rattle.interval.specs.{declared.Interval.{Interval}, Operations.{natural}}

-- rounded down and up
abbrev pub π_below : ℕ
π_below = 3141592653

abbrev pub π_above : ℕ
π_above = 3141592654

unfoldable pub π_ends : Interval
π_ends = natural π_below π_above
