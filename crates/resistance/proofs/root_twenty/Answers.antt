-- `root_twenty` is the pair of √20.
use Rattle.resistance.specs.Ends.{root_twenty}
use Rattle.resistance.proofs.root_twenty.Goals as goal

pub returns : goal.returns
unfolding root_twenty
returns c = c.natural.ensures
