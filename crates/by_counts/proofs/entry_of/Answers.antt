-- `entry_of` turns the counts round where the first is the larger.
use Rattle.by_counts.proofs.{Turned.{turned}}
use Rattle.by_counts.proofs.entry_of.Goals as goal

pub returns : goal.returns
returns c = turned c.if-a-b.false c.entry_at-2.ensures
