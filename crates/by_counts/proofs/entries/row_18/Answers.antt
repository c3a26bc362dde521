-- `row_18` has the entries of 18 and of each count up to it.
use Rattle.by_counts.proofs.Known.{computed, known, last}
use Rattle.by_counts.proofs.entries.row_18.Goals as goal

pub returns-in-2 : goal.returns-in-2
unfolding computed
returns-in-2 c = known c.in-2.is tt

pub returns-in-3 : goal.returns-in-3
unfolding computed
returns-in-3 c = known c.in-3.is tt

pub returns-in-4 : goal.returns-in-4
unfolding computed
returns-in-4 c = known c.in-4.is tt

pub returns-in-5 : goal.returns-in-5
unfolding computed
returns-in-5 c = known c.in-5.is tt

pub returns-in-6 : goal.returns-in-6
unfolding computed
returns-in-6 c = known c.in-6.is tt

pub returns-in-7 : goal.returns-in-7
unfolding computed
returns-in-7 c = known c.in-7.is tt

pub returns-in-8 : goal.returns-in-8
unfolding computed
returns-in-8 c = known c.in-8.is tt

pub returns-in-9 : goal.returns-in-9
unfolding computed
returns-in-9 c = known c.in-9.is tt

pub returns-in-10 : goal.returns-in-10
unfolding computed
returns-in-10 c = known c.in-10.is tt

pub returns-in-11 : goal.returns-in-11
unfolding computed
returns-in-11 c = known c.in-11.is tt

pub returns-in-12 : goal.returns-in-12
unfolding computed
returns-in-12 c = known c.in-12.is tt

pub returns-in-13 : goal.returns-in-13
unfolding computed
returns-in-13 c = known c.in-13.is tt

pub returns-in-14 : goal.returns-in-14
unfolding computed
returns-in-14 c = known c.in-14.is tt

pub returns-in-15 : goal.returns-in-15
unfolding computed
returns-in-15 c = known c.in-15.is tt

pub returns-in-16 : goal.returns-in-16
unfolding computed
returns-in-16 c = known c.in-16.is tt

pub returns-in-17 : goal.returns-in-17
unfolding computed
returns-in-17 c = known c.in-17.is tt

pub returns-in_default : goal.returns-in_default
unfolding computed
returns-in_default c = known (last 16 c.requires c.in_default.in_default-own.rest) tt
