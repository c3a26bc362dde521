-- The claim about a sheet and its buffer, from the judgement and the rows.
use Prim.Native.Nat.{ℕ, ◌*◌, ◌/◌, ◌≤◌, ◌<◌}
use mathlib.Core.{Path.{◌≡◌, refl, sym, ap, ◌∙◌}, List.{List}}
use native.Mathlib.Omega.{arith}
use lib.{IntN.{ℤ}, ListN.{length}}
use borrow.Author.Tests.{lt-ltb, le-ltb}
use Rattle.case.specs.Columns.{columns}
use Rattle.judgement.specs.Sheet.{judgement}
use Rattle.row.specs.Row.{row_length}
use Rattle.sheet.specs.{declared.Answer.{Answer}, Answer.{table_refused, answer_by, answer, cases}}
use Rattle.sheet.specs.declared.Answer.TheVariants as sheet
use Rattle.sheet.proofs.Accepted.{accepted}
use Rattle.c_bytes.specs.Bytes.{number_bytes}
use Rattle.c_tell.specs.{Room.{Few}, Answer.{signed_answer}}
use Rattle.c_rows.specs.Rows.{row_bytes, Filled}
use Rattle.c_entry.specs.Buffer.{BufferAfter, row_count, answer_for, InBytes, Answered}
use Rattle.std.specs.Prelude.{Err, Result, Ok}
use Rattle.refusal.specs.{declared.Refused.{Refused}, Refused.{refuse}}

module _ {j : Result ℕ Refused} (s t : List ℕ) (judged_is : j ≡ judgement columns s) where
  abbrev room : ℕ
  room = length t / number_bytes

  -- refused by its judgement
  pub in_bytes_refused : {why : Refused} → j ≡ Err why → InBytes s t t (Err why)
  unfolding BufferAfter answer_for row_count answer answer_by
  in_bytes_refused e = record { answer_is = rw (← judged_is, e); buffer_is = refl }

  -- a buffer short of 160 bytes a line
  pub in_bytes_short : {n : ℕ} → j ≡ Ok n → length t < row_bytes * n → InBytes s t t (refuse 8 0 0)
  unfolding BufferAfter answer_for row_count answer answer_by table_refused
  in_bytes_short {n} e h = record { answer_is = rw (← judged_is, e, lt-ltb room (row_length * n) (omega arith)); buffer_is = refl }

  pub in_bytes_rows : {n : ℕ} {u : List ℕ} → j ≡ Ok n → row_bytes * n ≤ length t → Filled (cases s) t u → InBytes s t u (Ok n)
  unfolding BufferAfter answer_for row_count answer answer_by
  in_bytes_rows {n} e h f = record { answer_is = rw (← judged_is, e, le-ltb room (row_length * n) (omega arith)); buffer_is = f }

-- ---- the answer as one number

few : (s : List ℕ) (room : ℕ) (a : Answer) → a ≡ answer s room → Few (row_count a)
unfolding Few row_count
few s room (sheet.Rows n) e = omega (arith, (accepted s room n (sym e)).sheet.most)
few s room (sheet.Refused k l c) e = tt

pub told_few : {s before after : List ℕ} {a : Result ℕ Refused} → InBytes s before after a → Few a
unfolding answer_for
told_few {s} {before} h = rw h.answer_is (few s (length before / number_bytes) _ refl)

pub told_signed : {s before after : List ℕ} {a : Result ℕ Refused} {r : ℤ} → InBytes s before after a → r ≡ signed_answer a → Answered s before after r
told_signed {s} {before} {after} h e =
    record { answer_is = e ∙ ap signed_answer h.answer_is; buffer_is = rw h.answer_is at h.buffer_is }
