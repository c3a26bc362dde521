-- `two_pi` is the pair of its two constants.
use Rattle.readings.specs.Ends.{two_pi}
use Rattle.readings.proofs.two_pi.Goals as goal

pub returns : goal.returns
unfolding two_pi
returns c = c.natural.ensures
