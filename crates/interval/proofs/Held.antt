-- What a local that is an interval holds.
use mir.{Syntax.{w64}, Val.{SFits}}
use Rattle.interval.specs.declared.Interval.{Interval}

-- both ends fit
abbrev pub Held : Interval → Type 0
Held a = SFits w64 a.lower × SFits w64 a.upper
