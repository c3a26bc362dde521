-- `yard` sets lines, spacing, rods and place.
use Rattle.yards.specs.Yards.{yard, spacing}
use borrow.Author.{Tests.{eq-eqb, ne_eqb}}
use Rattle.yards.proofs.yard.yard.Goals as goal

pub returns-then-rods-eq0 : goal.returns-then-rods-eq0
unfolding yard spacing
returns-then-rods-eq0 c = rw (eq-eqb _ _ c.if-rods-eq0.true)

pub returns : goal.returns
unfolding yard spacing
returns c = rw (ne_eqb _ _ c.if-rods-eq0.false)
