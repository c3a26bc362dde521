-- `put_sheet` writes the lines of the table, or the refusal: proofs/SheetTexts.antt.
use native.Mathlib.Omega.{arith}
use borrow.Author.Rules.{rules}
use Rattle.sheet_text.proofs.{SheetTexts.{refusal_is, rows_within, rows_are, rows_room}}
use Rattle.sheet_text.proofs.put_sheet.Goals as goal

pub slice_bounds-sheet-end : goal.slice_bounds-sheet-end
slice_bounds-sheet-end c = search rules

pub put_table-requires : goal.put_table-requires
put_table-requires c =
    record {
      le_width = (omega arith, omega arith);
      width_in_bounds = rows_within c.args.names.now c.args.what c.args.s.now c.sheet-a.ensures
          (search rules) c.in-Rows.is;
      table_in_bounds = rows_room c.args.names.now c.args.what c.args.s.now c.sheet-a.ensures
          (search rules) c.in-Rows.is c.requires.names_len_bound c.requires.text_room_in_bounds;
    }

pub returns-in-Rows : goal.returns-in-Rows
returns-in-Rows c =
    rw (rows_are c.args.names.now c.args.what c.args.s.now c.sheet-a.ensures
    (search rules) c.in-Rows.is)
    c.put_table.ensures

pub returns-in-Refused : goal.returns-in-Refused
returns-in-Refused c =
    rw (refusal_is c.args.names.now c.args.what c.args.s.now c.sheet-a.ensures
    (search rules) c.in-Refused.is)
    c.put_refusal.ensures
