-- `kii` is 1 for rods along the perimeter, else the inner conductors' weight.
use borrow.Author.Tests.{eq-eqb, ne_eqb}
use Rattle.mesh.specs.Factor.{kii_ends}
use Rattle.mesh.proofs.factor.kii.Goals as goal

pub returns-then-c-eq1 : goal.returns-then-c-eq1
unfolding kii_ends
returns-then-c-eq1 c = simp (eq-eqb c.args.c.place 1 c.if-c-eq1.true) c.point.ensures

pub returns : goal.returns
unfolding kii_ends
returns c =
    rw (ne_eqb c.args.c.place 1 c.if-c-eq1.false, c.requires.by_value)
