-- `kh` is the pair of the root and the next number.
use Rattle.enclosure.proofs.SquareRoot.{root_pair_lem}
use Rattle.mesh.specs.Factor.{kh_ends}
use Rattle.mesh.proofs.factor.kh.Goals as goal

pub returns : goal.returns
unfolding kh_ends
returns c = root_pair_lem c.root_ends.ensures
