-- `write_row` puts the row of a case in its own part of the table.
use Rattle.row.specs.Row.{numbers}
use mathlib.Core.Path.{ap, ◌∙◌}
use Rattle.table_rows.proofs.{RowParts.{row_written}}
use Rattle.table_rows.proofs.write_row.Goals as goal

pub returns : goal.returns
returns c =
    row_written c.args.i c.args.table.now _ _ c.requires.row_length_in_bounds (c.put_row.ensures ∙ ap numbers c.work_row.ensures)
