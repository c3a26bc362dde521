-- `time_root` is the pair of the root and the next number.
use Rattle.tolerable.specs.Ends.{time_root}
use Rattle.enclosure.proofs.SquareRoot.{root_pair_lem}
use Rattle.tolerable.proofs.time_root.Goals as goal

pub returns : goal.returns
unfolding time_root
returns c = root_pair_lem c.root_ends.ensures
