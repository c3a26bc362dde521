-- `write_lines` puts line after line.
use Prim.Native.Nat.{◌+◌, ◌*◌, ◌≤◌}
use mathlib.Core.Path.{◌≡◌, ◌∙◌}
use native.Mathlib.Omega.{arith}
use borrow.Author.Rules.{rules}
use borrow.Rule.Slice.PartMut.{mid_len}
use lib.ListN.{length}
use Rattle.tables.{specs.Parts.{part_at}, proofs.Filling.{filled_start, filled_end}}
use Rattle.case.specs.{Columns.{name_count}, Case.{case_of}}
use Rattle.table_rows.{specs.Rows.{stored_cases}, proofs.StoredCases.{cases_count, stored_case}}
use Rattle.c_lines.proofs.{Arrays.{part_within, line_filled}}
use Rattle.c_lines.proofs.lines.write_lines.Goals as goal
use Rattle.c_lines.proofs.lines.write_lines.Goals.{After-line_case-c, In-loop-i}

pub loop-i-init : goal.loop-i-init
loop-i-init c = (filled_start _, search rules)

-- line i is within the values
within : (c : In-loop-i) → name_count * c.loop-i.i + name_count ≤ length c.args.values.now
within c = omega (arith, c.requires.n_in_bounds, c.loop-i-test.true)

pub line_case-c-requires : goal.line_case-c-requires
line_case-c-requires c = omega (arith, within (goal.at.line_case-c-requires c).In-loop-i)

-- the case of line i
case_is : (c : After-line_case-c)
    → c.line_case-c.result ≡ case_of (part_at name_count c.args.values.now c.loop-i.i)
case_is c = c.line_case-c.ensures

-- part i is within the array
room : (c : In-loop-i)
    → c.width-wide.result * c.loop-i.i + c.width-wide.result ≤ length c.loop-i.numbers
room c =
    part_within c.args.question c.width-wide.ensures (omega (arith, c.requires.n_in_bounds_2, c.loop-i.invariant.0.size))
    c.loop-i-test.true

pub overflow_mul-from : goal.overflow_mul-from
overflow_mul-from c = omega (arith, room (goal.at.overflow_mul-from c).In-loop-i)

pub overflow_add-to : goal.overflow_add-to
overflow_add-to c = omega (arith, room (goal.at.overflow_add-to c).In-loop-i)

pub offset_bounds-numbers-from : goal.offset_bounds-numbers-from
offset_bounds-numbers-from c = omega (arith, room (goal.at.offset_bounds-numbers-from c).In-loop-i)

pub slice_bounds-put_line-end : goal.slice_bounds-put_line-end
slice_bounds-put_line-end c = omega (arith, room (goal.at.slice_bounds-put_line-end c).In-loop-i)

pub put_line-requires : goal.put_line-requires
put_line-requires c =
    record { bounds = rw (case_is (goal.at.put_line-requires c).After-line_case-c) (c.requires.stored_bounds c.loop-i.i c.loop-i-test.true); part_len = mid_len _ _ c.loop-i.numbers (slice_bounds-put_line-end (goal.at.put_line-requires c).After-line_case-c) ∙ omega arith ∙ c.width-wide.ensures }

pub loop-i-preserved : goal.loop-i-preserved
loop-i-preserved c = (
  line_filled c.args.question c.width-wide.ensures (stored_cases c.args.values.now c.args.n)
      c.put_line.new.part c.loop-i.invariant.0 (room (goal.at.loop-i-preserved c).In-loop-i)
      (rw (stored_case c.args.values.now c.args.n c.loop-i.i c.loop-i-test.true, ← case_is (goal.at.loop-i-preserved c).After-line_case-c)
      c.put_line.ensures),
  search rules,
)

pub shape_of-numbers : goal.shape_of-numbers
shape_of-numbers c = c.loop-i.invariant.0.size

pub returns : goal.returns
returns c =
    filled_end c.loop-i.invariant.0 (omega (arith, c.loop-i-test.false, cases_count c.args.values.now c.args.n))
