-- `write_rows` writes row after row.
use Rattle.table_rows.specs.Rows.{FilledTo, stored_cases}
use Rattle.table_rows.proofs.write_rows.Given as goal

abbrev pub invariant-loop-i : goal.invariant-loop-i
invariant-loop-i l = FilledTo (stored_cases l.values l.n) l.i l.initial.table l.table
