-- `in_range` tests both ends.
use mir.Facts.{to_z-of_z}
use Rattle.margin.specs.Margin.{in_range}
use Rattle.margin.proofs.in_range.Goals as goal

pub returns : goal.returns
unfolding in_range
returns c = rw (to_z-of_z c.ranges.low, to_z-of_z c.ranges.z)
