-- `write_sheet` tests the room, then writes the names and the lines: proofs/Whole.antt.
use Prim.Native.Nat.{◌+◌, ◌≤◌}
use native.Mathlib.Omega.{arith}
use lib.ListN.{length}
use Rattle.tables.specs.Parts.{parts_of}
use Rattle.writing.proofs.{LinesWriting.{lines_text}, Whole.{table_most, too_short, second_room, both_parts}}
use Rattle.writing.proofs.write_sheet.Goals as goal
use Rattle.writing.proofs.write_sheet.Goals.{Else-buf-names-2}

pub returns-then-buf-names : goal.returns-then-buf-names
returns-then-buf-names c =
    let a = c.args in
    too_short a.names.now (lines_text (parts_of a.k a.m a.table.now)) a.buf.now (omega (arith, c.if-buf-names.true))

pub lines_length-requires : goal.lines_length-requires
lines_length-requires c =
    let p = c.requires in
    record { k_nonzero = p.k_nonzero; k_in_bounds = p.k_in_bounds; table_len_bound = omega (arith, table_most c.args.k c.args.m c.args.table.now p.k_nonzero p.k_in_bounds p.table_value, c.well_formed) }

pub returns-then-buf-names-2 : goal.returns-then-buf-names-2
returns-then-buf-names-2 c =
    let a = c.args in
    too_short a.names.now (lines_text (parts_of a.k a.m a.table.now)) a.buf.now
    (omega (arith, c.if-buf-names-2.true, c.lines_length.ensures, c.if-buf-names.false))

-- there is room
roomy : (c : Else-buf-names-2)
    → let a = c.args in
    length a.names.now + length (lines_text (parts_of a.k a.m a.table.now)) ≤ length a.buf.now
roomy c = omega (arith, c.if-buf-names-2.false, c.lines_length.ensures, c.if-buf-names.false)

pub put_lines-requires : goal.put_lines-requires
put_lines-requires c =
    let a = c.args in record {
      k_nonzero = c.requires.k_nonzero;
      k_in_bounds = c.requires.k_in_bounds;
      table_in_bounds = second_room a.names.now (lines_text (parts_of a.k a.m a.table.now)) a.buf.now (roomy (goal.at.put_lines-requires c).Else-buf-names-2)
          c.put_bytes-p.ensures;
    }

pub returns : goal.returns
returns c =
    let a = c.args in
    both_parts a.names.now (lines_text (parts_of a.k a.m a.table.now)) a.buf.now (roomy (goal.at.returns c).Else-buf-names-2) c.put_bytes-p.ensures
    c.put_lines.ensures
