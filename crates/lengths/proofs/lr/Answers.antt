-- `lr` fits by the bound of the rods.
use mathlib.Core.Path.{refl}
use lib.Dec.{lit<}
use Rattle.interval.proofs.Fits.{fits_below}
use Rattle.lengths.specs.Lengths.{lr_mm}
use Rattle.lengths.proofs.{Lengths.{rodlen_high, rod_bound}}
use Rattle.lengths.proofs.lr.Goals as goal

pub overflow_cast-result-2 : goal.overflow_cast-result-2
overflow_cast-result-2 c = fits_below (rodlen_high c.requires) (lit< tt)

pub overflow_mul-result : goal.overflow_mul-result
unfolding lr_mm
overflow_mul-result c = fits_below (rod_bound c.requires) (lit< tt)

pub returns : goal.returns
unfolding lr_mm
returns c = refl
