-- §6.6: the headroom of a case, for the answers of `row`: a fault current in range is answered safe if and only if it is at most the
-- headroom.
use Prim.Native.Nat.{ℕ, ◌≤◌}
use mathlib.Core.{Path.{◌≡◌}, Logic.{◌↔◌}}
use Rattle.case.specs.{declared.Case.{Case}, Fault.{with_fault}}
use Rattle.decision.specs.declared.Verdict.TheVariants.{Safe}
use Rattle.row.specs.Ends.{row_of}
use Rattle.yards.specs.Fewest.{AnsweredYard}
use Rattle.headroom.specs.{Headroom.{InRange, RightRoom, HeadroomAnswered}}
use Rattle.hocsimbur.specs.{Asked.{RowAnswered, AnsweredWith}}
use Rattle.hocsimbur.proofs.Answers.{sound_answered}
use Rattle.std.specs.Prelude.{Some, None, Result, Ok}
use Rattle.refusal.specs.{declared.Refused.{Refused}}
use Rattle.row.specs.declared.Row.{Row}

-- a yard that is answered is answered safe exactly where its row is safe
module _ {y : Case} {a : Result Row Refused} (yard : AnsweredYard y) (h : RowAnswered y a) where
  answered_safe : AnsweredWith Safe a → (row_of y).verdict ≡ Safe
  answered_safe w =
      let is : a ≡ Ok (row_of y) = sound_answered yard.sound h in
      let same : w.row ≡ row_of y = cc in
      rw same at w.verdict

  safe_answered : (row_of y).verdict ≡ Safe → AnsweredWith Safe a
  safe_answered s = record { row = row_of y; is = sound_answered yard.sound h; verdict = s }

module _ {c : Case} {f : ℕ} {a : Result Row Refused} where
  pub headroom_rows : {F : ℕ} → HeadroomAnswered c (Ok (Some F)) → InRange f → RowAnswered (with_fault f c) a → AnsweredWith Safe a ↔ f ≤ F
  unfolding RightRoom
  headroom_rows h i r =
      let room = h.right in
      let y = room.answered f i in
      (λ w. room.greatest f i (answered_safe y r w), λ l. safe_answered y r (room.safe f i l))

  pub no_headroom_rows : HeadroomAnswered c (Ok None) → InRange f → RowAnswered (with_fault f c) a → ¬ AnsweredWith Safe a
  unfolding RightRoom
  no_headroom_rows h i r w = let room = h.right in room.none_safe f i (answered_safe (room.answered f i) r w)
