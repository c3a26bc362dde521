-- `square` adds the squares of the sizes.
use mir.Facts.{to_z-of_z}
use Rattle.staged.specs.Current.{square_of}
use Rattle.staged.proofs.grid.square.Goals as goal

pub returns : goal.returns
unfolding square_of
returns c = rw (c.unsigned_abs-a.ensures.value, c.unsigned_abs-b.ensures.value, to_z-of_z c.ranges.in_phase, to_z-of_z c.ranges.quadrature)
