-- `text::count_block` meets its contract: the count of proofs/Counts.antt.
use Rattle.std.proofs.Common.{arith}
use Rattle.text.proofs.Counts.{counting_start, counting_same, counting_other, counting_end}
use Rattle.text.proofs.count_block.Goals as goal
use Rattle.text.proofs.count_block.Goals.{then-x-b, else-x-b}

pub loop-x-init : goal.loop-x-init
loop-x-init c = counting_start _ _

pub loop-x-preserved : goal.loop-x-preserved
loop-x-preserved c =
    let a = c.loop-x.invariant in
    let h = c.loop-x-test.true in
    elim c.if-x-b.branch [ then-x-b w ↦ rw w.n-is (counting_same a h w.if-x-b.true) | else-x-b w ↦ rw w.n-is (counting_other a h w.if-x-b.false) ]

pub returns : goal.returns
returns c = counting_end c.loop-x.invariant (omega arith)
