-- `area_of` is the conductor's own cross-section, or that of a solid round wire of the diameter.
use borrow.Author.Tests.{eq-eqb, ne_eqb}
use Rattle.tally.specs.Lines.{area_of}
use Rattle.tally.proofs.add.area_of.Goals as goal

pub returns-then-area-ne0 : goal.returns-then-area-ne0
unfolding area_of
returns-then-area-ne0 c = rw (ne_eqb _ _ c.if-area-ne0.true)

pub returns-else-area-ne0 : goal.returns-else-area-ne0
unfolding area_of
returns-else-area-ne0 c = rw (eq-eqb _ _ c.if-area-ne0.false)
