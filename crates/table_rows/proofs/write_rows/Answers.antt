-- `write_rows` writes row after row.
use mathlib.Core.Path.{refl}
use native.Mathlib.Omega.{arith}
use Rattle.tables.proofs.Filling.{filled_step, filled_end}
use Rattle.case.specs.Bounds.{Bounds}
use Rattle.row.proofs.Right.{right_row}
use Rattle.table_rows.proofs.{StoredCases.{cases_count, stored_case}}
use Rattle.table_rows.proofs.write_rows.Goals as goal
use Rattle.table_rows.proofs.write_rows.Goals.{After-line_case}

bounds : (c : After-line_case) → Bounds c.line_case.result
bounds c = rw c.line_case.ensures (c.requires.stored_bounds c.loop-i.i c.loop-i-test.true)

pub loop-i-preserved : goal.loop-i-preserved
loop-i-preserved c =
    filled_step c.loop-i.invariant c.write_row.ensures
    (rw (stored_case c.args.values.now _ _ c.loop-i-test.true, ← c.line_case.ensures)
    (record { is = refl; right = right_row (bounds (goal.at.loop-i-preserved c).After-line_case) }))

pub returns : goal.returns
returns c =
    filled_end c.loop-i.invariant (omega (arith, c.loop-i-test.false, cases_count c.args.values.now c.args.n))
