-- `released_or_held` tests the sum of the five counts.
use mathlib.Core.{Path.{ap, sym}, Bool.{cond}}
use borrow.Author.{Tests.{eq-eqb, ne_eqb}}
use Rattle.tally.specs.Tally.{released}
use Rattle.tally.proofs.seasons.released_or_held.Goals as goal

pub returns-then-without-t-eq0 : goal.returns-then-without-t-eq0
unfolding released
returns-then-without-t-eq0 c = ap (λ b. cond b 1 2) (sym (eq-eqb _ _ c.if-without-t-eq0.true))

pub returns-else-without-t-eq0 : goal.returns-else-without-t-eq0
unfolding released
returns-else-without-t-eq0 c = ap (λ b. cond b 1 2) (sym (ne_eqb _ _ c.if-without-t-eq0.false))
