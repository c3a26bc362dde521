-- `row_4` has the entries of 4 and of each count up to it.
use Rattle.by_counts.proofs.Known.{computed, known, last}
use Rattle.by_counts.proofs.entries.row_4.Goals as goal

pub returns-in-2 : goal.returns-in-2
unfolding computed
returns-in-2 c = known c.in-2.is tt

pub returns-in-3 : goal.returns-in-3
unfolding computed
returns-in-3 c = known c.in-3.is tt

pub returns-in_default : goal.returns-in_default
unfolding computed
returns-in_default c = known (last 2 c.requires c.in_default.in_default-own.rest) tt
