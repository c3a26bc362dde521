-- `bad_count` tests 0, a multiple of three and the most numbers.
use Rattle.std.proofs.Common.{arith}
use Rattle.std.proofs.lemmas.{Bool.Decides.{nat_tests}, Grind.{common_steps}}
use Rattle.release.specs.Licence.{bad_count}
use Rattle.release.proofs.licence.bad_count.Goals as goal

pub returns-then-n-ne0 : goal.returns-then-n-ne0
unfolding bad_count
returns-then-n-ne0 c = grind (arith, common_steps, nat_tests)

pub returns-else-n-ne0 : goal.returns-else-n-ne0
unfolding bad_count
returns-else-n-ne0 c = grind (arith, common_steps, nat_tests)
