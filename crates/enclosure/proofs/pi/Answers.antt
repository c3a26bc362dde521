-- `pi` is the pair of its two constants.
use Rattle.enclosure.specs.Pi.{π_ends}
use Rattle.enclosure.proofs.pi.Goals as goal

pub returns : goal.returns
unfolding π_ends
returns c = c.natural.ensures
