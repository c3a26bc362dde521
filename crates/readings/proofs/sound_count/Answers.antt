-- `sound_count` tests 0, odd and the most numbers.
use Rattle.std.proofs.Common.{arith}
use Rattle.std.proofs.lemmas.Grind.{common_steps}
use Rattle.std.proofs.lemmas.Bool.Decides.{nat_tests}
use Rattle.readings.specs.Refusal.{sound_count}
use Rattle.readings.proofs.sound_count.Goals as goal

pub returns-then-n-eq0 : goal.returns-then-n-eq0
unfolding sound_count
returns-then-n-eq0 c = grind (arith, common_steps, nat_tests)

pub returns-else-n-eq0 : goal.returns-else-n-eq0
unfolding sound_count
returns-else-n-eq0 c = grind (arith, common_steps, nat_tests)
