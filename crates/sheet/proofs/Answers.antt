-- The claim about a sheet and its table, from the answer and the rows.
use Prim.Native.Nat.{ℕ, ◌*◌, ◌≤◌, ◌<◌}
use mathlib.Core.{Path.{◌≡◌, refl}, List.{List}}
use lib.{IntN.{ℤ}, ListN.{length}}
use borrow.Author.Tests.{lt-ltb, le-ltb}
use Rattle.case.specs.Columns.{columns}
use Rattle.judgement.specs.Sheet.{judgement}
use Rattle.row.specs.Row.{row_length}
use Rattle.table_rows.specs.Rows.{Filled}
use Rattle.sheet.specs.{declared.Answer.TheVariants.{Rows, Refused}, Answer.{table_refused, answer_by, cases, answer}}
use Rattle.sheet.specs.Table.{TableAfter, Answered}
use Rattle.std.specs.Prelude.{Result, Ok}
use Rattle.refusal.specs.{declared.Refused.{Refused as Refusal}, Refused.{refuse}}

module _ {j : Result ℕ Refusal} (s : List ℕ) (t : List ℤ) (judged_is : j ≡ judgement columns s) where
  -- refused by its judgement
  pub answered_refused : {k l c : ℕ} → j ≡ refuse k l c → Answered s t t (Refused k l c)
  unfolding TableAfter answer answer_by
  answered_refused e = record { answer_is = rw (← judged_is, e); table_is = refl }

  -- a table too short
  pub answered_short : {n : ℕ} → j ≡ Ok n → length t < row_length * n → Answered s t t (Refused 8 0 0)
  unfolding TableAfter answer answer_by table_refused
  answered_short {n} e h = record { answer_is = rw (← judged_is, e, lt-ltb (length t) (row_length * n) h); table_is = refl }

  pub answered_rows : {n : ℕ} {u : List ℤ} → j ≡ Ok n → row_length * n ≤ length t → Filled (cases s) t u → Answered s t u (Rows n)
  unfolding TableAfter answer answer_by
  answered_rows {n} e h f = record { answer_is = rw (← judged_is, e, le-ltb (length t) (row_length * n) h); table_is = f }
