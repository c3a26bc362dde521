-- `lt` fits by the bounds of its parts.
use lib.Dec.{lit<}
use Rattle.interval.proofs.Fits.{fits_below}
use Rattle.lengths.specs.Lengths.{lt_mm}
use Rattle.lengths.proofs.{Lengths.{total_bounds}}
use Rattle.lengths.proofs.lt.Goals as goal

pub overflow_add-result : goal.overflow_add-result
unfolding lt_mm
overflow_add-result c =
    rw (c.lr.ensures, c.lc.ensures) (fits_below (total_bounds c.requires).high (lit< tt))

pub returns : goal.returns
unfolding lt_mm
returns c = rw (c.lr.ensures, c.lc.ensures)
