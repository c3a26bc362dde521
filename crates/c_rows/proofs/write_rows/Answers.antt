-- `write_rows` puts row after row.
use native.Mathlib.Omega.{arith}
use borrow.Author.Rules.{rules}
use Rattle.tables.proofs.Filling.{filled_start, filled_step, filled_end}
use Rattle.case.specs.{Bounds.{Bounds}}
use Rattle.table_rows.{proofs.StoredCases.{cases_count, stored_case}}
use Rattle.c_rows.proofs.{RowBytes.{row_right}}
use Rattle.c_rows.proofs.write_rows.Goals as goal
use Rattle.c_rows.proofs.write_rows.Goals.{After-line_case-c}

pub loop-i-init : goal.loop-i-init
loop-i-init c = (filled_start _, search rules)

-- line i is within the values
pub line_case-c-requires : goal.line_case-c-requires
line_case-c-requires c = omega (arith, c.requires.n_in_bounds, c.loop-i-test.true)

bounds : (c : After-line_case-c) → Bounds c.line_case-c.result
bounds c = rw c.line_case-c.ensures (c.requires.stored_bounds c.loop-i.i c.loop-i-test.true)

pub put_row-requires : goal.put_row-requires
put_row-requires c =
    record { bounds = bounds (goal.at.put_row-requires c).After-line_case-c; row_bytes_in_bounds = omega (arith, c.loop-i.invariant.0.size, c.requires.n_in_bounds_2, c.loop-i-test.true) }

pub loop-i-preserved : goal.loop-i-preserved
loop-i-preserved c = (
  filled_step c.loop-i.invariant.0 c.put_row.ensures.written
      (rw (stored_case c.args.values.now _ _ c.loop-i-test.true, ← c.line_case-c.ensures)
      (row_right c.put_row.ensures (bounds (goal.at.loop-i-preserved c).After-line_case-c))),
  search rules,
)

pub shape_of-buffer : goal.shape_of-buffer
shape_of-buffer c = c.loop-i.invariant.0.size

pub returns : goal.returns
returns c =
    filled_end c.loop-i.invariant.0 (omega (arith, c.loop-i-test.false, cases_count c.args.values.now c.args.n))
