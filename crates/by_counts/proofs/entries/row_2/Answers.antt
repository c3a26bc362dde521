-- `row_2` has the entries of 2 and of each count up to it.
use Rattle.by_counts.proofs.Known.{computed, known, last}
use Rattle.by_counts.proofs.entries.row_2.Goals as goal

pub returns : goal.returns
unfolding computed
returns c = known (last 0 c.requires tt) tt
