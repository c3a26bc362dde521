-- `put_row` puts the row of a case in its own part of the buffer.
use mathlib.Core.Path.{ap, ◌∙◌}
use Rattle.row.specs.Row.{numbers}
use Rattle.c_rows.proofs.{RowBytes.{row_put}}
use Rattle.c_rows.proofs.put_row.Goals as goal

pub returns : goal.returns
returns c =
    row_put c.args.i c.args.buffer.now c.args.c c.requires.row_bytes_in_bounds c.put_numbers.ensures
    (c.row_numbers-numbers.ensures ∙ ap numbers c.work_row.ensures)
