-- `fill_lines` reads, then writes where the array has room.
use native.Mathlib.Omega.{arith}
use Rattle.refusal.proofs.Passed.{passed_on}
use Rattle.case.specs.{Columns.{name_count_lem}, Parts.{form_of}}
use Rattle.sheet.proofs.ReadLines.{StoredLines, judged_is, stored_lines}
use Rattle.c_lines.proofs.Arrays.{numbers_few, answered_refused, answered_short, answered_lines}
use Rattle.c_lines.proofs.lines.fill_lines.Goals as goal
use Rattle.c_lines.proofs.lines.fill_lines.Goals.{In_ok-n}

pub read-requires : goal.read-requires
unfolding form_of
read-requires c = omega (arith, name_count_lem, c.requires)

stored : (n : In_ok-n) → StoredLines n.args.s.now n.in_ok-n.n n.read.new.values
stored n = stored_lines n.read.ensures n.requires n.in_ok-n.was

pub overflow_mul-width : goal.overflow_mul-width
overflow_mul-width c =
    record { fits = numbers_few c.args.question c.width.ensures (stored (goal.at.overflow_mul-width c).In_ok-n).most }

pub returns-then-numbers-width : goal.returns-then-numbers-width
returns-then-numbers-width c =
    answered_short _ _ (judged_is c.read.ensures) c.width.ensures c.in_ok-n.was c.if-numbers-width.true

pub write_lines-requires : goal.write_lines-requires
write_lines-requires c =
    let l = stored (goal.at.write_lines-requires c).In_ok-n in
    record { stored_bounds = l.bounds; n_in_bounds = l.room; n_in_bounds_2 = rw (← c.width.ensures) c.if-numbers-width.false }

pub returns-in_err-n : goal.returns-in_err-n
returns-in_err-n c =
    rw (passed_on _ c.from_residual.ensures.1) (answered_refused _ _ (judged_is c.read.ensures) c.in_err-n.was)

pub returns : goal.returns
returns c =
    answered_lines _ _ (judged_is c.read.ensures) c.width.ensures c.in_ok-n.was c.if-numbers-width.false
    (rw (← (stored (goal.at.returns c).In_ok-n).cases_are) c.write_lines.ensures)
