-- `lm` is LM by the place of the rods.
use native.Mathlib.{Omega.{arith}, Nat.{mul-le-mul_left}}
use lib.Dec.{lit<}
use borrow.Author.Tests.{eq-eqb, ne_eqb}
use Rattle.interval.proofs.Fits.{fits_below}
use Rattle.lengths.proofs.Lengths.{total_bounds}
use Rattle.mesh.specs.Ends.{lm_ends}
use Rattle.mesh.proofs.rods.lm.Goals as goal

pub returns-then-c-eq1 : goal.returns-then-c-eq1
unfolding lm_ends
returns-then-c-eq1 c = simp (eq-eqb c.args.c.place 1 c.if-c-eq1.true) c.weighed_length.ensures

pub overflow_mul-lt : goal.overflow_mul-lt
overflow_mul-lt c =
    rw c.lt.ensures (fits_below (mul-le-mul_left 1000 (total_bounds c.requires).high) (lit< tt))

pub point-requires : goal.point-requires
point-requires c =
    rw c.lt.ensures (omega (arith, (total_bounds c.requires).high))

pub returns : goal.returns
unfolding lm_ends
returns c =
    rw (ne_eqb c.args.c.place 1 c.if-c-eq1.false) (cc)
