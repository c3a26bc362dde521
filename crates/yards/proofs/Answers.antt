-- What holds of an answer: an answer that is not a refusal is the search's, over yards that are sound cases.
use Prim.Native.Nat.{ℕ, zero, suc, ◌<◌}
use mathlib.Core.{Path.{◌≡◌, refl, sym, ap, ◌∙◌}, Bool.{Bool, true, false, cond, ◌&&◌}, List.{List, [], ◌∷◌}}
use native.Mathlib.Omega.{arith}
use lib.{Dec.{leb, eqb}, ListN.{length, get_or}}
use Rattle.std.specs.Prelude.{Result, Ok, Err}
use Rattle.refusal.specs.{declared.Refused.{Refused}, Refused.{refuse}}
use Rattle.text.proofs.Clash.{clash}
use Rattle.whole.specs.Every.{Every}
use Rattle.case.specs.{declared.Case.{Case}, Check.{record_judged, record_answer}, Bounds.{Bounds}}
use Rattle.case.proofs.{Bounds.{record_bounds}, BoundsSound.{bounds_sound}}
use Rattle.decision.specs.declared.Verdict.TheVariants.{Safe}
use Rattle.row.{specs.Ends.{case_verdict, row_of}, proofs.Right.{row_verdict, right_row}}
use Rattle.yards.specs.{declared.FewestLines.{FewestLines, TheVariants.{Found, None}}, Yards.{yard, yards, trial, means_safe, is_safe}}
use Rattle.yards.specs.Fewest.{least_side, most_side, fewest, side_answer, answer, AnsweredYard, RightAnswer, FewestAnswered}
use Rattle.yards.proofs.{Trying.{yards_most}, Sound.{Tried, yards_sound}, Place.{Says, fewest_says}, Found.{found_yard}}

-- ---- an answer that is no refusal

pub record Searched (c : Case) (side : ℕ) (r : FewestLines) : Type 0 where
  pub sound : Bounds (yard c 2500 2 4)
  pub is : fewest c side ≡ r

module _ {r : FewestLines} where
  in_side : (b : Bool) (next : Result FewestLines Refused) → cond b next (refuse 15 0 0) ≡ Ok r → next ≡ Ok r
  in_side true next e = e
  in_side false next e = clash cc

  rodded : (b : Bool) (next : Result FewestLines Refused) → cond b (refuse 16 0 0) next ≡ Ok r → (b ≡ false) × (next ≡ Ok r)
  rodded true next e = clash cc
  rodded false next e = (refl, e)

  checked : (j : Result (Unit {0}) Refused) (next : Result FewestLines Refused) → record_answer next j ≡ Ok r → (j ≡ Ok tt) × (next ≡ Ok r)
  unfolding record_answer
  checked (Ok sound) next e = (refl, e)
  checked (Err why) next e = clash cc

trial_is : (c : Case) → eqb c.rodlen 0 ≡ false → trial c ≡ yard c 2500 2 4
unfolding trial
trial_is c e = rw e

pub searched : {c : Case} {side : ℕ} {r : FewestLines} → answer c side ≡ Ok r → Searched c side r
unfolding answer side_answer
searched {c} {side} e =
    let j = checked (record_judged (trial c)) (side_answer c side) e in
    let s = rodded (eqb c.rodlen 0) (Ok (fewest c side)) (in_side (leb least_side side && leb side most_side) _ j.1) in
    record { sound = record_bounds (ap record_judged (sym (trial_is c s.0)) ∙ j.0); is = cc }

-- ---- a yard of the list

every_at : (P : Case → Type 0) (d : Case) (ys : List Case) → Every P ys → (i : ℕ) → i < length ys → P (get_or ys i d)
every_at P d [] h i l = absurd (omega arith)
every_at P d (y ∷ ys) h zero l = h.0
every_at P d (y ∷ ys) h (suc i) l = every_at P d ys h.1 i (omega arith)

pub tried_at : {c : Case} {side : ℕ} → Bounds (yard c 2500 2 4) → (i : ℕ) → i < length (yards c side)
    → Tried c side (get_or (yards c side) i c)
tried_at {c} {side} b i l = every_at (Tried c side) c (yards c side) (yards_sound c side b) i l

pub answered_yard : {y : Case} → Bounds y → AnsweredYard y
answered_yard b = record { sound = bounds_sound b; right = right_row b }

pub not_safe_lem : (y : Case) → is_safe y ≡ false → ¬ ((row_of y).verdict ≡ Safe)
unfolding is_safe means_safe
not_safe_lem y u e =
    let s : case_verdict y ≡ Safe = sym (row_verdict y) ∙ e in
    let q : true ≡ false = (rw s at u) in
    clash cc

-- ---- the answer is right

module _ (c : Case) (side : ℕ) where
  right_as : (r : Result FewestLines Refused) → answer c side ≡ r → RightAnswer c side r
  unfolding RightAnswer Says
  right_as (Ok (Found lines rods place)) e =
      let s = searched e in
      let f = found_yard c side s.sound s.is in
      let says : Says c 0 (yards c side) (Found lines rods place) = rw s.is at (fewest_says c c side) in
      record {
        answered = answered_yard f.sound;
        safe = row_verdict (yard c side lines rods) ∙ f.safe;
        most = omega (arith, says.1, says.2.within, yards_most c side);
      }
  right_as (Ok (None tried)) e =
      let s = searched e in
      let says : Says c 0 (yards c side) (None tried) = rw s.is at (fewest_says c c side) in
      record {
        answered = λ i l. answered_yard (tried_at s.sound i l).bounds;
        none_safe = λ i l. not_safe_lem (get_or (yards c side) i c) (says.1 i l);
        most = omega (arith, says.0, yards_most c side);
      }
  right_as (Err why) e = tt

  pub answered : {r : Result FewestLines Refused} → r ≡ answer c side → FewestAnswered c side r
  answered {r} e = record { answer = e; right = right_as r (sym e) }
