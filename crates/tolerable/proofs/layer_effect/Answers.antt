-- `layer_effect` is Q for bare soil or with a layer.
use borrow.Author.{Tests.{eq-eqb, ne_eqb}, Rules.{rules}}
use Rattle.tolerable.specs.Ends.{layer_ends}
use Rattle.tolerable.proofs.layer_effect.Goals as goal

pub returns-then-c-eq0 : goal.returns-then-c-eq0
unfolding layer_ends
returns-then-c-eq0 c = simp (eq-eqb c.args.c.layer 0 c.if-c-eq0.true) c.point.ensures

pub returns : goal.returns
unfolding layer_ends
returns c = simp (ne_eqb c.args.c.layer 0 c.if-c-eq0.false) c.layered.ensures

pub overflow_cast-c : goal.overflow_cast-c
overflow_cast-c c = search rules

pub overflow_mul-c : goal.overflow_mul-c
overflow_mul-c c = search rules

pub point-requires : goal.point-requires
point-requires c = search rules

pub layered-requires : goal.layered-requires
layered-requires c = search rules
