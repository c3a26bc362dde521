-- `same_yard` compares the nine columns.
use Rattle.std.proofs.Common.{arith}
use Rattle.std.proofs.lemmas.Bool.Decides.{nat_tests}
use Rattle.std.proofs.lemmas.Grind.{common_steps}
use Rattle.tally.specs.Lines.{same_yard}
use Rattle.tally.proofs.add.same_yard.Goals as goal

pub returns-then-c-d-8 : goal.returns-then-c-d-8
unfolding same_yard
returns-then-c-d-8 c = grind (arith, common_steps, nat_tests)

pub returns-else-c-d-8 : goal.returns-else-c-d-8
unfolding same_yard
returns-else-c-d-8 c = grind (arith, common_steps, nat_tests)
