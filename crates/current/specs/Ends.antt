-- §4.4: the ends of the grid current, by whole-number intervals, and the upper end of the decrement factor. These name the free part of the
-- answers: callers use only their laws.
use Rattle.std.specs.Prelude.{ℕ, ◌*◌, ◌^◌, nat_abs}
use Rattle.interval.specs.{declared.Interval.{Interval}, Operations.{outward_of, scaled_of}}
use Rattle.case.specs.declared.Case.{Case}
use Rattle.decrement.specs.Ends.{df_ends}

-- fault·split·Df in microamperes; fault·split is in 10^−3, Df in 10^−9
unfoldable pub ig_ends : Case → Interval
ig_ends c = outward_of (scaled_of (df_ends c) (c.fault * c.split)) (10 ^ 6)

-- the factor's upper end, in billionths
abbrev pub upper_factor : Case → ℕ
upper_factor c = nat_abs (df_ends c).upper
