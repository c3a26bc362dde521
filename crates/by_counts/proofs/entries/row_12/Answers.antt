-- `row_12` has the entries of 12 and of each count up to it.
use Rattle.by_counts.proofs.Known.{computed, known, last}
use Rattle.by_counts.proofs.entries.row_12.Goals as goal

pub returns-in-2 : goal.returns-in-2
unfolding computed
returns-in-2 c = known c.in-2.is tt

pub returns-in-3 : goal.returns-in-3
unfolding computed
returns-in-3 c = known c.in-3.is tt

pub returns-in-4 : goal.returns-in-4
unfolding computed
returns-in-4 c = known c.in-4.is tt

pub returns-in-5 : goal.returns-in-5
unfolding computed
returns-in-5 c = known c.in-5.is tt

pub returns-in-6 : goal.returns-in-6
unfolding computed
returns-in-6 c = known c.in-6.is tt

pub returns-in-7 : goal.returns-in-7
unfolding computed
returns-in-7 c = known c.in-7.is tt

pub returns-in-8 : goal.returns-in-8
unfolding computed
returns-in-8 c = known c.in-8.is tt

pub returns-in-9 : goal.returns-in-9
unfolding computed
returns-in-9 c = known c.in-9.is tt

pub returns-in-10 : goal.returns-in-10
unfolding computed
returns-in-10 c = known c.in-10.is tt

pub returns-in-11 : goal.returns-in-11
unfolding computed
returns-in-11 c = known c.in-11.is tt

pub returns-in_default : goal.returns-in_default
unfolding computed
returns-in_default c = known (last 10 c.requires c.in_default.in_default-own.rest) tt
