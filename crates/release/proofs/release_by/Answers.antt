-- `release_by` reads the sheet, then answers the licence.
use Prim.Native.Nat.{ℕ, ◌*◌}
use mathlib.Core.Path.{sym, ◌∙◌, ◌≡◌}
use native.Mathlib.Omega.{arith}
use lib.ListN.{length}
use Rattle.refusal.proofs.Passed.{passed_on}
use Rattle.case.specs.{Columns.{columns, name_count, name_count_lem}, Parts.{form_of}}
use Rattle.header.specs.Header.{columns_of}
use Rattle.judgement.specs.{Limits.{most_lines}, Sheet.{names, value_lines, judgement}}
use Rattle.judgement.{specs.Read.{Stored}, proofs.Accepted.{accepted}}
use Rattle.judgement.specs.Accepted as judged
use Rattle.sheet.proofs.StoredCases.{stored_cases_lem, stored_bounds}
use Rattle.release.proofs.{Answers.{sheet_refused, sheet_read}}
use Rattle.release.proofs.release_by.Goals as goal
use Rattle.release.proofs.release_by.Goals.{After-read}
use Rattle.std.specs.Prelude.{Ok}

-- ---- the sheet as it was read

judged_is : (r : After-read) → r.read.result ≡ judgement columns r.args.s.now
unfolding form_of
judged_is r = r.read.ensures.answer_is

store_count : (r : After-read) → length r.read.new.values ≡ name_count * most_lines
store_count r = r.read.ensures.size ∙ r.requires

-- n lines
module _ (r : After-read) {n : ℕ} (e : r.read.result ≡ Ok n) where
  lines_accepted : judged.Accepted columns r.args.s.now n
  lines_accepted = accepted columns _ _ (sym (judged_is r) ∙ e)

  lines_stored : Stored columns (columns_of columns (names r.args.s.now)) (value_lines r.args.s.now)
      r.read.new.values
  unfolding form_of
  lines_stored = r.read.ensures.stored _ e

pub read-requires : goal.read-requires
unfolding form_of
read-requires c = omega (arith, name_count_lem, c.requires)

pub release_lines-requires : goal.release_lines-requires
release_lines-requires c = let a = lines_accepted (goal.at.release_lines-requires c).After-read c.in_ok-n.was in
    record { n_le_most_lines = a.most; stored_bounds = stored_bounds _ a (lines_stored (goal.at.release_lines-requires c).After-read c.in_ok-n.was); n_in_bounds = omega (arith, store_count (goal.at.release_lines-requires c).After-read, a.most) }

pub returns-in_err-n : goal.returns-in_err-n
returns-in_err-n c =
    rw (passed_on _ c.from_residual.ensures.1) (sheet_refused _ _ _ (judged_is (goal.at.returns-in_err-n c).After-read) c.in_err-n.was)

pub returns : goal.returns
returns c = sheet_read _ _ _ (sym (judged_is (goal.at.returns c).After-read) ∙ c.in_ok-n.was)
    (rw (← stored_cases_lem _ (lines_accepted (goal.at.returns c).After-read c.in_ok-n.was) (lines_stored (goal.at.returns c).After-read c.in_ok-n.was)) c.release_lines.ensures)
