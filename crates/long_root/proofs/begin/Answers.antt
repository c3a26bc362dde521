-- `begin` takes the root of the whole part of the quotient.
use Rattle.long_root.proofs.{LongRoot.{begun}}
use Rattle.long_root.proofs.begin.Goals as goal

pub returns : goal.returns
returns c = begun c.requires c.isqrt-whole.ensures
