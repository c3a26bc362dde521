-- `put_wide` writes from the last digit on: the numbering of proofs/Digits.antt.
use native.Mathlib.Omega.{arith}
use Rattle.writing.proofs.{Decimal.{decimal_length}, Digits.{numbering_start, numbering_step, numbering_end}}
use Rattle.writing.proofs.put_wide.Goals as goal

pub overflow_add-end : goal.overflow_add-end
overflow_add-end c = omega (arith, c.requires, decimal_length c.args.n, c.wide_count.ensures.count)

pub loop-i-init : goal.loop-i-init
loop-i-init c = numbering_start _ _ _ _ c.requires (omega (arith, c.wide_count.ensures.count))

pub bounds-buf-i : goal.bounds-buf-i
bounds-buf-i c = omega (arith, c.loop-i.invariant.within, c.loop-i.invariant.size)

pub loop-i-preserved : goal.loop-i-preserved
loop-i-preserved c = numbering_step c.loop-i.invariant (omega arith)

pub returns : goal.returns
returns c = numbering_end c.loop-i.invariant (omega arith) (omega (arith, c.wide_count.ensures.count))
