-- `case::range::present_in_range` meets its contract: the pass of proofs/RangeNumbers.antt.
use Rattle.case.proofs.{RangeNumbers.{Tested}}
use Rattle.case.proofs.range.present_in_range.Given as goal

abbrev pub invariant-loop-k : goal.invariant-loop-k
invariant-loop-k l = Tested l.v l.all l.k
