-- `Range::holds` meets its contract.
use mathlib.Core.Path.{refl}
use Rattle.case.specs.Parts.{passes}
use Rattle.case.proofs.range.Range.holds.Goals as goal

pub returns : goal.returns
unfolding passes
returns c = refl
