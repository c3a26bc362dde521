-- `put_numbers` puts two numbers a step, each in its own eight bytes.
use Rattle.std.proofs.Common.{◌-◌}
use Rattle.row.specs.Row.{row_length}
use Rattle.c_rows.proofs.EvenCount.{Even}
use Rattle.c_rows.proofs.put_numbers.Given as goal

abbrev pub invariant-loop-i : goal.invariant-loop-i
invariant-loop-i l = Even l.numbers l.part l.i

abbrev pub decreases-loop-i : goal.decreases-loop-i
decreases-loop-i l = row_length - l.i
