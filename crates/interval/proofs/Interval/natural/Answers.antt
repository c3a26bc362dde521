-- `Interval::natural` gives two naturals as signed ends.
use mir.{Syntax.{w64}, Facts.{to_z_pos}}
use Rattle.interval.specs.Operations.{natural}
use Rattle.interval.proofs.Interval.natural.Goals as goal

pub returns : goal.returns
unfolding natural
returns c = cc (to_z_pos w64 c.requires.0, to_z_pos w64 c.requires.1)
