-- §1.5: what programs sold earlier for the same columns answer.
use Prim.Native.Nat.{ℕ, ◌*◌, ◌≤◌, ◌<◌}
use mathlib.Core.{Path.{◌≡◌, sym, ◌∙◌}, List.{List}}
use native.Mathlib.Omega.{arith}
use lib.{IntN.{ℤ}, ListN.{length}}
use Rattle.case.specs.Columns.{columns}
use Rattle.judgement.proofs.OtherLimits.{stored_sheet_kept, long_refused_earlier, many_refused_earlier}
use Rattle.sheet.specs.{declared.Answer.{Answer, TheVariants.{Rows}}, Table.{row_at, TableAfter, Answered}}
use Rattle.claims.specs.{Words.{BreaksNone}, Rules.{AnsweredEarlier, AboveEarlier}}
use Rattle.claims.proofs.{Outcomes.{rows_answer}, Sheets.{cases_count, row_of_lem}}

-- "Stored sheets keep their rows."
pub stored_sheet : {s : List ℕ} {before after before' after' : List ℤ} {n : ℕ} {r : Answer} → AnsweredEarlier s before after n
    → Answered s before' after' r → 20 * n ≤ length before'
    → (r ≡ Rows n) × ((i : ℕ) → i < n → row_at after' i ≡ row_at after i)
unfolding TableAfter
stored_sheet {s} {before' = before'} {after'} {n} {r} e h room =
    let kept : BreaksNone s n = stored_sheet_kept columns s n e.accepted in
    let is : r ≡ Rows n = h.answer_is ∙ rows_answer s (length before') (kept, room) in
    let now : Answered s before' after' (Rows n) = rw is at h in
    (is, λ i l. (row_of_lem now i l).is ∙ sym (e.rows.parts i (omega (arith, cases_count s n kept))).is)

pub above_earlier : {s : List ℕ} {n : ℕ} → BreaksNone s n → AboveEarlier s n
above_earlier {s} {n} e = record { bytes_above = long_refused_earlier columns s n e; lines_above = many_refused_earlier columns s n e }
