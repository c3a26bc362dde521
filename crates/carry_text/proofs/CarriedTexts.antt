-- The text of a sheet that is carried over: it fits, and it is what the conversion leaves in a buffer with room for the longest text.
use Prim.Native.Nat.{ℕ, ◌≤◌}
use mathlib.Core.{Path.{◌≡◌, refl, sym, ◌∙◌}, List.{List, ◌++◌}}
use native.Mathlib.Omega.{arith}
use lib.ListN.{length, drop}
use borrow.Author.Tests.{le-ltb}
use Rattle.writing.specs.Put.{Put}
use Rattle.case.specs.{declared.Form.{Form}, Parts.{form_of}}
use Rattle.case.specs.Counted.{refused_or}
use Rattle.judgement.specs.{Limits.{most_bytes}, Sheet.{judgement}}
use Rattle.carried_values.specs.{Values.{other, cases_in}, Changes.{changes}}
use Rattle.conversion.specs.Answer.{carried_text, room_answer, answer, buffer_after, Answered}
use Rattle.conversion.proofs.RoundTrip.{carried_short}
use Rattle.fields.{specs.Refusal.{refused_text, unless_refused}, proofs.Refusals.{answer_fits}}
use Rattle.carry_text.specs.Carried.{carry_text}
use Rattle.std.specs.Prelude.{Result, Ok, Err}
use Rattle.refusal.specs.{declared.Refused.{Refused}, Refused.{refuse}}

module _ (form : Form) (s : List ℕ) where
  abbrev source : Result ℕ Refused
  source = judgement (form_of (other form)) s

  abbrev change : Result (Unit {0}) Refused
  change = changes form (cases_in (form_of (other form)) s)

  pub carried_fits : length (carry_text form s) ≤ most_bytes
  unfolding carry_text
  carried_fits =
      answer_fits most_bytes source _ (omega arith)
      (λ n e. answer_fits most_bytes change (carried_text form s) (omega arith) (λ m q. carried_short form s n e))

  -- the sheet's own bytes, or a refusal other than 8
  abbrev tells : Result ℕ Refused → List ℕ → Type 0
  tells (Ok count) t = (t ≡ carried_text form s) × (count ≡ length t)
  tells (Err why) t = t ≡ refused_text why.0 why.1 why.2

  carried_told : (room : ℕ) → most_bytes ≤ room → tells (answer form s room) (carry_text form s)
  unfolding answer refused_or room_answer unless_refused carry_text
  carried_told room h = go source refl change
    where
      go : (j : Result ℕ Refused) → source ≡ j → (k : Result (Unit {0}) Refused)
          → tells (refused_or j (refused_or k (room_answer (carried_text form s) room)))
          (unless_refused j (unless_refused k (carried_text form s)))
      go (Err why) e k = refl
      go (Ok n) e (Err why) = refl
      go (Ok n) e (Ok m) = rw (le-ltb room (length (carried_text form s)) (omega (arith, carried_short form s n e))) (refl, refl)

  module _ {before after : List ℕ} {a : Result ℕ Refused} (h : Answered form s before after a) (enough : most_bytes ≤ length before) where
    told_by : {b : Result ℕ Refused} → a ≡ b → tells b (carry_text form s)
    told_by e = rw (← (sym h.answer_is ∙ e)) (carried_told (length before) enough)

    pub carried_put : {count : ℕ} → a ≡ Ok count → Put before 0 (carry_text form s) after count
    unfolding buffer_after
    carried_put {count} e =
        let t = told_by e in
        let b : after ≡ carried_text form s ++ drop count before = rw e at h.buffer_is in
        record { next = omega (arith, t.1); holds = b ∙ rw t.0 }

    -- a refusal leaves the buffer, and its line is put into it
    pub carried_refused : {number line column r : ℕ} {now : List ℕ} → a ≡ refuse number line column
        → Put after 0 (refused_text number line column) now r → Put before 0 (carry_text form s) now r
    unfolding buffer_after
    carried_refused e p =
        let b : after ≡ before = rw e at h.buffer_is in
        rw (told_by e, ← b) p
