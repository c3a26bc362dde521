-- `write_lines` puts line after line.
use Prim.Native.Nat.{◌-◌, ◌≤◌}
use Rattle.table_rows.{specs.Rows.{stored_cases}}
use Rattle.c_lines.proofs.{Arrays.{FilledTo}}
use Rattle.c_lines.proofs.lines.write_lines.Given as goal

abbrev pub invariant-loop-i : goal.invariant-loop-i
invariant-loop-i l = FilledTo l.question (stored_cases l.values l.n) l.i l.initial.numbers l.numbers × (l.i ≤ l.n)

abbrev pub decreases-loop-i : goal.decreases-loop-i
decreases-loop-i l = l.n - l.i
