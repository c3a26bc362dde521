-- `logarithm::is_inside` meets its contract.
use Rattle.std.proofs.Common.{rules}
use Rattle.logarithm.specs.Asked.{inside}
use Rattle.logarithm.proofs.is_inside.Goals as goal

pub returns : goal.returns
unfolding inside
returns c = search rules
