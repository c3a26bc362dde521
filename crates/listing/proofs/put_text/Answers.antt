-- `put_text` calls what writes the program's text; the laws of `sheet_text` have the rows of a sheet after the names of the program.
use Rattle.listing.specs.Programs.{program_text}
use Rattle.sheet_text.proofs.Texts.{verdict_shown, rows_shown, margins_shown}
use Rattle.listing.proofs.put_text.Goals as goal

pub returns-in-Verdict : goal.returns-in-Verdict
unfolding program_text
returns-in-Verdict c =
    rw (c.in-Verdict.is, verdict_shown c.args.s.now) c.put_sheet.ensures

pub returns-in-Rows : goal.returns-in-Rows
unfolding program_text
returns-in-Rows c =
    rw (c.in-Rows.is, rows_shown c.args.s.now) c.put_sheet-in-Rows.ensures

pub returns-in-Margins : goal.returns-in-Margins
unfolding program_text
returns-in-Margins c =
    rw (c.in-Margins.is, margins_shown c.args.s.now) c.put_sheet-in-Margins.ensures

pub returns-in-Summary : goal.returns-in-Summary
unfolding program_text
returns-in-Summary c = rw c.in-Summary.is c.put_summary.ensures

pub returns-in-Fewest : goal.returns-in-Fewest
unfolding program_text
returns-in-Fewest c = rw c.in-Fewest.is c.put_fewest.ensures

pub returns-in-Carry : goal.returns-in-Carry
unfolding program_text
returns-in-Carry c = rw c.in-Carry.is c.put_carried.ensures

pub returns-in-CarryBack : goal.returns-in-CarryBack
unfolding program_text
returns-in-CarryBack c = rw c.in-CarryBack.is c.put_carried-in-CarryBack.ensures
