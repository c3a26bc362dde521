-- `exponential::pair` meets its contract: the upper end is the lesser of two.
use Rattle.exponential.specs.Ends.{pair_of}
use Rattle.exponential.proofs.pair.Goals as goal

pub returns : goal.returns
unfolding pair_of
returns c = rw (c.natural.ensures, c.min.ensures)
