-- `count_other` goes by the nine columns.
use Rattle.std.proofs.Common.{arith}
use Rattle.std.proofs.lemmas.Grind.{common_steps}
use Rattle.whole.specs.Count.{one}
use Rattle.tally.specs.Lines.{other_yard}
use Rattle.tally.proofs.add.count_other.Goals as goal

pub returns : goal.returns
unfolding one other_yard
returns c = grind (arith, common_steps)
