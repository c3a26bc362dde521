-- `Interval::point` gives one natural as both ends.
use mir.{Syntax.{w64}, Facts.{to_z_pos}}
use Rattle.interval.specs.Operations.{point}
use Rattle.interval.proofs.Interval.point.Goals as goal

pub returns : goal.returns
unfolding point
returns c = cc (to_z_pos w64 c.requires)
