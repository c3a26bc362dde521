-- The claim about a sheet and its buffer, from what was read, found and written.
use Prim.Native.Nat.{ℕ}
use mathlib.Core.{Path.{◌≡◌, refl, sym, ◌∙◌}, Bool.{Bool, true, false, cond}, List.{List, ◌++◌}}
use lib.{Dec.{leb}, ListN.{length, drop}}
use borrow.Author.Tests.{lt-ltb, le-ltb, leb-true, leb-false}
use Rattle.text.proofs.Clash.{clash}
use Rattle.std.specs.Prelude.{Option, Some, None}
use Rattle.writing.specs.Put.{WrittenFirst}
use Rattle.case.specs.{declared.Form.{Form}, Parts.{form_of}}
use Rattle.case.specs.Counted.{refused_or}
use Rattle.judgement.specs.Sheet.{judgement}
use Rattle.carried_values.specs.{Values.{other, cases_in}, Changes.{changes}}
use Rattle.conversion.specs.Answer.{carried_text, room_answer, answer, buffer_after, Answered}
use Rattle.std.specs.Prelude.{Result, Ok, Err}
use Rattle.refusal.specs.{declared.Refused.{Refused}, Refused.{refuse}}

module _ (form : Form) (s before : List ℕ) {j : Result ℕ Refused} (judged_is : j ≡ judgement (form_of (other form)) s) where
  pub answered_source : {why : Refused} → j ≡ Err why → Answered form s before before (Err why)
  unfolding answer refused_or buffer_after
  answered_source e = record { answer_is = rw (← judged_is, e); buffer_is = refl }

  module _ {n : ℕ} (lines : j ≡ Ok n) {r : Result (Unit {0}) Refused} (change_is : r ≡ changes form (cases_in (form_of (other form)) s)) where
    pub answered_change : {why : Refused} → r ≡ Err why → Answered form s before before (Err why)
    unfolding answer refused_or buffer_after
    answered_change e = record { answer_is = rw (← judged_is, lines, ← change_is, e); buffer_is = refl }

    module _ (kept : r ≡ Ok tt) where
      room_answer_lem : answer form s (length before) ≡ room_answer (carried_text form s) (length before)
      unfolding answer refused_or
      room_answer_lem = rw (← judged_is, lines, ← change_is, kept)

      -- what was written, or nothing
      pub answered_short : {after : List ℕ} {o : Option ℕ} → WrittenFirst (carried_text form s) before after o → o ≡ None
          → Answered form s before after (refuse 8 0 0)
      unfolding room_answer buffer_after
      answered_short w p = go (leb (length (carried_text form s)) (length before)) refl (sym p ∙ w.answer) w.holds
        where
          go : (b : Bool) → leb (length (carried_text form s)) (length before) ≡ b
              → None ≡ cond b (Some (length (carried_text form s))) None
              → {after : List ℕ} → after ≡ cond b (carried_text form s ++ drop (length (carried_text form s)) before) before
              → Answered form s before after (refuse 8 0 0)
          go true q e h = clash cc
          go false q e h =
              record {
                answer_is = sym (room_answer_lem ∙ rw (lt-ltb (length before) (length (carried_text form s)) (leb-false _ _ q)));
                buffer_is = h;
              }

      pub answered_written : {after : List ℕ} {o : Option ℕ} {k : ℕ} → WrittenFirst (carried_text form s) before after o → o ≡ Some k
          → Answered form s before after (Ok k)
      unfolding room_answer buffer_after
      answered_written {k = k} w p = go (leb (length (carried_text form s)) (length before)) refl (sym p ∙ w.answer) w.holds
        where
          go : (b : Bool) → leb (length (carried_text form s)) (length before) ≡ b
              → Some k ≡ cond b (Some (length (carried_text form s))) None
              → {after : List ℕ} → after ≡ cond b (carried_text form s ++ drop (length (carried_text form s)) before) before
              → Answered form s before after (Ok k)
          go true q e h =
              let z : k ≡ length (carried_text form s) = cc in
              record {
                answer_is = sym (room_answer_lem ∙ rw (le-ltb (length before) (length (carried_text form s)) (leb-true _ _ q), z));
                buffer_is = h ∙ rw z;
              }
          go false q e h = clash cc
