-- `key` meets its contract: the number fits.
use mathlib.Core.Path.{refl}
use Rattle.line_finding.specs.Parts.{packed}
use Rattle.line_finding.proofs.key.Goals as goal

pub returns : goal.returns
unfolding packed
returns c = refl
