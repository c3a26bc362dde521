-- `fill_buffer` reads, then puts the rows where the buffer has room.
use native.Mathlib.Omega.{arith}
use Rattle.refusal.proofs.Passed.{passed_on}
use Rattle.sheet.proofs.ReadLines.{StoredLines, judged_is, stored_within}
use Rattle.c_entry.proofs.{Answers.{in_bytes_refused, in_bytes_short, in_bytes_rows}}
use Rattle.c_entry.proofs.fill_buffer.Goals as goal
use Rattle.c_entry.proofs.fill_buffer.Goals.{In_ok-n}

pub read_within-requires : goal.read_within-requires
read_within-requires c = c.requires

stored : (n : In_ok-n) → StoredLines n.args.s.now n.in_ok-n.n n.read_within.new.values
stored n = stored_within n.read_within.ensures n.requires n.in_ok-n.was

pub overflow_mul-n : goal.overflow_mul-n
overflow_mul-n c = omega (arith, (stored (goal.at.overflow_mul-n c).In_ok-n).most)

pub returns-then-buffer-n : goal.returns-then-buffer-n
returns-then-buffer-n c =
    in_bytes_short _ _ (judged_is c.read_within.ensures) c.in_ok-n.was c.if-buffer-n.true

pub write_rows-requires : goal.write_rows-requires
write_rows-requires c =
    let l = stored (goal.at.write_rows-requires c).In_ok-n in
    record { stored_bounds = l.bounds; n_in_bounds = l.room; n_in_bounds_2 = c.if-buffer-n.false }

pub returns-in_err-n : goal.returns-in_err-n
returns-in_err-n c =
    rw (passed_on _ c.from_residual.ensures.1) (in_bytes_refused _ _ (judged_is c.read_within.ensures) c.in_err-n.was)

pub returns : goal.returns
returns c =
    in_bytes_rows _ _ (judged_is c.read_within.ensures) c.in_ok-n.was c.if-buffer-n.false
    (rw (← (stored (goal.at.returns c).In_ok-n).cases_are) c.write_rows.ensures)
