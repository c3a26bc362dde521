-- `judge` answers number, line and column of the finding.
use mathlib.Core.Path.{sym, ◌∙◌}
use Rattle.case.specs.Check.{judged_by, record_judged}
use Rattle.case.proofs.judge.Goals as goal

pub returns-in-Sound : goal.returns-in-Sound
unfolding record_judged judged_by
returns-in-Sound c = rw (sym c.check.ensures ∙ c.in-Sound.is)

pub returns-in-OutOfRange : goal.returns-in-OutOfRange
unfolding record_judged judged_by
returns-in-OutOfRange c = rw (sym c.check.ensures ∙ c.in-OutOfRange.is)

pub returns-in-Disagreement : goal.returns-in-Disagreement
unfolding record_judged judged_by
returns-in-Disagreement c = rw (sym c.check.ensures ∙ c.in-Disagreement.is)
