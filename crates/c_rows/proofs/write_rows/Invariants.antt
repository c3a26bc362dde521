-- `write_rows` puts row after row.
use Prim.Native.Nat.{◌-◌, ◌≤◌}
use lib.ListN.{get_or}
use mathlib.Core.List.{[]}
use Rattle.tables.specs.Parts as parts
use Rattle.case.specs.{Case.{case_of}}
use Rattle.table_rows.{specs.Rows.{stored_cases}}
use Rattle.c_rows.specs.Rows.{row_bytes, RowBytes}
use Rattle.c_rows.proofs.write_rows.Given as goal

abbrev pub invariant-loop-i : goal.invariant-loop-i
invariant-loop-i l =
    parts.Filled row_bytes (λ k part. RowBytes (get_or (stored_cases l.values l.n) k (case_of [])) part) l.i l.initial.buffer l.buffer × (l.i ≤ l.n)

abbrev pub decreases-loop-i : goal.decreases-loop-i
decreases-loop-i l = l.n - l.i
