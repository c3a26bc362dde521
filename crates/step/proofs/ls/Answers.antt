-- `ls` fits by the bounds of the lengths.
use Prim.Native.Nat.{◌*◌}
use native.Mathlib.Omega.{arith}
use lib.Dec.{lit<}
use Rattle.interval.proofs.Fits.{fits_below}
use Rattle.lengths.proofs.Lengths.{conductor_bounds, rod_bound}
use Rattle.step.specs.Ends.{ls_twentieths}
use Rattle.step.proofs.{Spans.{length_bounds}}
use Rattle.step.proofs.ls.Goals as goal

pub overflow_mul-result : goal.overflow_mul-result
overflow_mul-result c =
    rw c.lc.ensures (fits_below {m = 15 * 36000000} (omega (arith, (conductor_bounds c.requires).high)) (lit< tt))

pub overflow_mul-result-2 : goal.overflow_mul-result-2
overflow_mul-result-2 c = rw c.lr.ensures (fits_below {m = 17 * 2000000} (omega (arith, rod_bound c.requires)) (lit< tt))

pub overflow_add-result : goal.overflow_add-result
unfolding ls_twentieths
overflow_add-result c =
    rw (c.lr.ensures, c.lc.ensures) (fits_below (length_bounds c.requires).high (lit< tt))

pub returns : goal.returns
unfolding ls_twentieths
returns c = rw (c.lr.ensures, c.lc.ensures)
