-- `text::count_block` meets its contract: the count of proofs/Counts.antt.
use Rattle.text.proofs.Counts.{Counting}
use Rattle.text.proofs.count_block.Given as goal

abbrev pub invariant-loop-x : goal.invariant-loop-x
invariant-loop-x l = Counting l.b l.s l.n l.x-index
