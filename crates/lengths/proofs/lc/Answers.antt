-- `lc` fits by the bounds of the conductors of each direction and of all.
use lib.Dec.{lit<}
use Rattle.interval.proofs.Fits.{fits_below}
use Rattle.lengths.specs.Lengths.{lc_mm}
use Rattle.lengths.proofs.{Lengths.{across_bounds, along_bounds, conductor_bounds}}
use Rattle.lengths.proofs.lc.Goals as goal

pub overflow_mul-result : goal.overflow_mul-result
overflow_mul-result c = rw c.side_y.ensures (fits_below (across_bounds c.requires).high (lit< tt))

pub overflow_mul-result-2 : goal.overflow_mul-result-2
overflow_mul-result-2 c = rw c.side_x.ensures (fits_below (along_bounds c.requires).high (lit< tt))

pub overflow_add-result : goal.overflow_add-result
unfolding lc_mm
overflow_add-result c =
    rw (c.side_x.ensures, c.side_y.ensures)
    (fits_below (conductor_bounds c.requires).high (lit< tt))

pub returns : goal.returns
unfolding lc_mm
returns c = rw (c.side_x.ensures, c.side_y.ensures)
