-- `fill_table` reads, then writes where the table has room.
use native.Mathlib.Omega.{arith}
use Rattle.case.specs.{Columns.{name_count_lem}, Parts.{form_of}}
use Rattle.sheet.proofs.{Answers.{answered_refused, answered_short, answered_rows}, ReadLines.{StoredLines, judged_is, stored_lines}}
use Rattle.sheet.proofs.fill_table.Goals as goal
use Rattle.sheet.proofs.fill_table.Goals.{In-Ok}

pub read-requires : goal.read-requires
unfolding form_of
read-requires c = omega (arith, name_count_lem, c.requires)

stored : (n : In-Ok) → StoredLines n.args.s.now n.in-Ok.n n.read.new.values
stored n = stored_lines n.read.ensures n.requires n.in-Ok.is

pub overflow_mul-n : goal.overflow_mul-n
overflow_mul-n c = omega (arith, (stored (goal.at.overflow_mul-n c).In-Ok).most)

pub returns-then-table-n : goal.returns-then-table-n
returns-then-table-n c =
    answered_short _ _ (judged_is c.read.ensures) c.in-Ok.is c.if-table-n.true

pub write_rows-requires : goal.write_rows-requires
write_rows-requires c =
    let l = stored (goal.at.write_rows-requires c).In-Ok in
    record { stored_bounds = l.bounds; n_in_bounds = l.room; n_in_bounds_2 = c.if-table-n.false }

pub returns-in-Err : goal.returns-in-Err
returns-in-Err c = answered_refused _ _ (judged_is c.read.ensures) c.in-Err.is

pub returns-else-table-n : goal.returns-else-table-n
returns-else-table-n c =
    answered_rows _ _ (judged_is c.read.ensures) c.in-Ok.is c.if-table-n.false
    (rw (← (stored (goal.at.returns-else-table-n c).In-Ok).cases_are) c.write_rows.ensures)
