-- `bad_count` tests the count in the order of the definition.
use Rattle.std.proofs.Common.{arith}
use Rattle.std.proofs.lemmas.{Grind.{common_steps}, Bool.Decides.{nat_tests}}
use Rattle.staged.specs.Check.{fewest_numbers, most_numbers, bad_count}
use Rattle.staged.proofs.check.bad_count.Goals as goal

pub returns-then-n-ne0 : goal.returns-then-n-ne0
unfolding bad_count fewest_numbers most_numbers
returns-then-n-ne0 c = grind (arith, common_steps, nat_tests)

pub returns-else-n-ne0 : goal.returns-else-n-ne0
unfolding bad_count fewest_numbers most_numbers
returns-else-n-ne0 c = grind (arith, common_steps, nat_tests)
