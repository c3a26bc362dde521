-- `body_factor` is k by the body's mass.
use borrow.Author.Tests.{eq-eqb, ne_eqb}
use Rattle.tolerable.specs.Ends.{body_factor}
use Rattle.tolerable.proofs.body_factor.Goals as goal

pub returns-then-c-eq50 : goal.returns-then-c-eq50
unfolding body_factor
returns-then-c-eq50 c = simp (eq-eqb c.args.c.body 50 c.if-c-eq50.true)

pub returns : goal.returns
unfolding body_factor
returns c = simp (ne_eqb c.args.c.body 50 c.if-c-eq50.false)
