-- `trial` has rods where the case has a rod length.
use mathlib.Core.Path.{◌∙◌}
use Rattle.yards.specs.Yards.{trial}
use borrow.Author.{Tests.{eq-eqb, ne_eqb}}
use Rattle.yards.proofs.yard.trial.Goals as goal

pub returns-then-c-eq0 : goal.returns-then-c-eq0
unfolding trial
returns-then-c-eq0 c = c.yard.ensures ∙ rw (eq-eqb _ _ c.if-c-eq0.true)

pub returns : goal.returns
unfolding trial
returns c = c.yard-2.ensures ∙ rw (ne_eqb _ _ c.if-c-eq0.false)
