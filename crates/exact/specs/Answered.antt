-- §5.7, §5.8: the answer to a question for two ends, and what holds of it.
use Rattle.exact.specs.{Fraction.{Fraction}, Ends.{Ends}, Exact.{Exact}, Reported.{Scale, Reports}}
use Rattle.std.specs.Prelude.{Result, Ok, Err}
use Rattle.refusal.specs.{declared.Refused.{Refused}}
use Rattle.interval.specs.declared.Interval.{Interval}

-- two ends report the exact value; nothing is required of a refusal here
unfoldable pub RightPair : Exact → Scale → (Ends → Fraction) → Result Interval Refused → Type 0
RightPair x u width (Ok i) = Reports x u width i
RightPair x u width (Err why) = Unit {0}
