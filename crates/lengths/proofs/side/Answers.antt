-- `side` fits by the bounds of a side.
use mathlib.Core.Path.{refl}
use lib.Dec.{lit<}
use Rattle.interval.proofs.Fits.{fits_below}
use Rattle.lengths.specs.Lengths.{side_of}
use Rattle.lengths.proofs.{Lengths.{side_bounds}}
use Rattle.lengths.proofs.side.Goals as goal

pub overflow_mul-result : goal.overflow_mul-result
unfolding side_of
overflow_mul-result c = fits_below (side_bounds c.requires.0 c.requires.1).high (lit< tt)

pub returns : goal.returns
unfolding side_of
returns c = refl
