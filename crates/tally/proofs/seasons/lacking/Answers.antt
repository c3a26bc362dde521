-- `lacking` tests the licence, then the lines.
use Rattle.std.proofs.Common.{arith}
use Rattle.std.proofs.lemmas.{Bool.Decides.{nat_tests}, Grind.{common_steps}}
use Rattle.whole.specs.Count.{one}
use Rattle.tally.proofs.seasons.lacking.Goals as goal

pub returns : goal.returns
unfolding one
returns c = grind (arith, common_steps, nat_tests)
