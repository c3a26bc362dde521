-- `step_in_micrometres` scales the twentieths of a millimetre that LS is counted in.
use native.Mathlib.{Omega.{arith}, Nat.{mul-le-mul_left}}
use lib.Dec.{lit<}
use Rattle.interval.proofs.Fits.{fits_below}
use Rattle.step.proofs.Spans.{length_bounds}
use Rattle.working.proofs.step_in_micrometres.Goals as goal

pub overflow_mul-ls : goal.overflow_mul-ls
overflow_mul-ls c = rw c.ls.ensures (fits_below (mul-le-mul_left 50 (length_bounds c.requires).high) (lit< tt))

pub point-requires : goal.point-requires
point-requires c = rw c.ls.ensures (omega (arith, (length_bounds c.requires).high))

pub returns : goal.returns
returns c = cc
