-- `fewest_of_sheet` reads the sheet, then searches for its case: proofs/OneLines.antt.
use Rattle.refusal.proofs.Passed.{passed_on}
use Rattle.one_line.proofs.{OneLines.{sheet_refused, sheet_searched}}
use Rattle.one_line.proofs.fewest_of_sheet.Goals as goal

pub returns-in_err-read_one : goal.returns-in_err-read_one
returns-in_err-read_one c =
    rw (passed_on _ c.from_residual.ensures.1) (sheet_refused c.args.s.now c.read_one.ensures c.in_err-read_one.was)

pub returns : goal.returns
returns c =
    sheet_searched c.args.s.now c.read_one.ensures c.in_ok-read_one.was c.case_of.ensures
    c.fewest_lines.ensures
