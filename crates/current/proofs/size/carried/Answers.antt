-- `carried` rounds up.
use mathlib.Core.Path.{refl}
use Rattle.whole.specs.Whole.{ceil_div}
use Rattle.current.specs.Size.{carried_of}
use Rattle.current.proofs.size.carried.Goals as goal

pub returns : goal.returns
unfolding carried_of ceil_div
returns c = refl
