-- `put_row` writes what is shown of the row: proofs/ShownLines.antt.
use mathlib.Core.Path.{◌≡◌, sym, ap, ◌∙◌}
use native.Mathlib.Omega.{arith}
use lib.{ListN.{length, take}, Seq.{length-take-le}}
use Rattle.row_text.proofs.{ShownLines.{verdict_line_lem, numbers_line, margins_line, margins_five}}
use Rattle.row_text.proofs.put_row.Goals as goal
use Rattle.row_text.proofs.put_row.Goals.{Start}

-- ---- station, season, verdict and size

four : (s : Start) → length (take 4 s.args.row.now) ≡ 4
four s = length-take-le 4 s.args.row.now s.requires.in_bounds

pub slice_bounds-put_fields-end : goal.slice_bounds-put_fields-end
slice_bounds-put_fields-end c = sym (four (goal.at.slice_bounds-put_fields-end c).Start)

pub put_fields-requires : goal.put_fields-requires
put_fields-requires c =
    record { row_nonzero = omega (arith, four (goal.at.put_fields-requires c).Start); row_in_bounds = rw (verdict_line_lem c.args.row.now c.in-Verdict.is) at c.requires.row_in_bounds }

-- ---- all numbers

pub put_fields-requires-in-Numbers : goal.put_fields-requires-in-Numbers
put_fields-requires-in-Numbers c =
    record { row_nonzero = omega (arith, c.requires.in_bounds); row_in_bounds = rw (numbers_line c.args.row.now c.in-Numbers.is) at c.requires.row_in_bounds }

-- ---- station, season, verdict and margins

pub slice_bounds-put_fields-end-in-Margins : goal.slice_bounds-put_fields-end-in-Margins
slice_bounds-put_fields-end-in-Margins c =
    sym (ap length c.margin_numbers-numbers.ensures ∙ margins_five _)

pub put_fields-requires-in-Margins : goal.put_fields-requires-in-Margins
put_fields-requires-in-Margins c =
    record { row_nonzero = omega (arith, ap length c.margin_numbers-numbers.ensures ∙ margins_five _); row_in_bounds = rw c.margin_numbers-numbers.ensures (rw (margins_line c.args.row.now c.in-Margins.is) at c.requires.row_in_bounds) }

pub returns-in-Verdict : goal.returns-in-Verdict
returns-in-Verdict c =
    rw (verdict_line_lem c.args.row.now c.in-Verdict.is) c.put_fields.ensures

pub returns-in-Numbers : goal.returns-in-Numbers
returns-in-Numbers c =
    rw (numbers_line c.args.row.now c.in-Numbers.is) c.put_fields-in-Numbers.ensures

pub returns-in-Margins : goal.returns-in-Margins
returns-in-Margins c =
    rw (margins_line c.args.row.now c.in-Margins.is, ← c.margin_numbers-numbers.ensures)
    c.put_fields-in-Margins.ensures
