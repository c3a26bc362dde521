-- `count_undecided` goes by the verdict.
use Rattle.std.proofs.Common.{arith}
use Rattle.std.proofs.lemmas.Grind.{common_steps}
use Rattle.whole.specs.Count.{one}
use Rattle.decision.specs.Verdict.{verdict_number}
use Rattle.tally.proofs.add.count_undecided.Goals as goal

pub returns : goal.returns
unfolding one verdict_number
returns c = grind (arith, common_steps)
