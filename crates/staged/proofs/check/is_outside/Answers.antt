-- `is_outside` tests both ends of the range.
use Rattle.std.proofs.Common.{arith}
use Rattle.std.proofs.lemmas.{Grind.{common_steps}, Int.{ints, to_z-of_z}}
use Rattle.staged.specs.Check.{largest_part, outside}
use Rattle.staged.proofs.check.is_outside.Goals as goal

pub returns : goal.returns
unfolding largest_part outside
returns c = grind (arith, common_steps, ints, to_z-of_z)
