-- What a found yard is: a case within its bounds whose verdict is safe.
use Prim.Native.Nat.{ℕ, suc}
use mathlib.Core.{Path.{◌≡◌, refl, ◌∙◌}, Bool.{Bool, true, false, cond}, List.{List, [], ◌∷◌}}
use Rattle.text.proofs.Clash.{clash}
use Rattle.whole.specs.Every.{Every}
use Rattle.case.specs.{declared.Case.{Case}, Bounds.{Bounds}}
use Rattle.decision.specs.declared.Verdict.{TheVariants.{Safe, Unsafe, Undecided}, Verdict}
use Rattle.row.specs.Ends.{case_verdict}
use Rattle.yards.specs.{declared.FewestLines.TheVariants.{Found}, Yards.{yard, yards, means_safe, is_safe}, Fewest.{first_safe, fewest}}
use Rattle.yards.proofs.Sound.{Tried, yards_sound}

-- a yard of these counts of lines and rods
pub record FoundYard (c : Case) (side lines rods : ℕ) : Type 0 where
  pub sound : Bounds (yard c side lines rods)
  pub safe : case_verdict (yard c side lines rods) ≡ Safe

pub means_safe_lem : (v : Verdict) → means_safe v ≡ true → v ≡ Safe
unfolding means_safe
means_safe_lem Safe e = refl
means_safe_lem Unsafe e = clash cc
means_safe_lem Undecided e = clash cc

safe_yard : {c : Case} {side : ℕ} (lines rods : ℕ) → Bounds (yard c side lines rods) → is_safe (yard c side lines rods) ≡ true
    → FoundYard c side lines rods
unfolding is_safe
safe_yard lines rods b e = record { sound = b; safe = means_safe_lem _ e }

module _ (c : Case) (side : ℕ) where
  found_in : (t : ℕ) (ys : List Case) {lines rods place : ℕ} → Every (Tried c side) ys → first_safe t ys ≡ Found lines rods place
      → FoundYard c side lines rods
  unfolding first_safe
  found_in t [] s e = clash cc
  found_in t (y ∷ ys) {lines} {rods} {place} s e = go (is_safe y) refl e (found_in (suc t) ys s.1)
    where
      go : (b : Bool) → is_safe y ≡ b → cond b (Found y.across y.rods (suc t)) (first_safe (suc t) ys) ≡ Found lines rods place
          → (first_safe (suc t) ys ≡ Found lines rods place → FoundYard c side lines rods) → FoundYard c side lines rods
      go true safe f later =
          let l : y.across ≡ lines = cc in
          let r : y.rods ≡ rods = cc in
          let is : y ≡ yard c side lines rods = s.0.is ∙ rw (l, r) in
          safe_yard lines rods (rw is at s.0.bounds) (rw is at safe)
      go false safe f later = later f

  pub found_yard : {lines rods place : ℕ} → Bounds (yard c 2500 2 4) → fewest c side ≡ Found lines rods place → FoundYard c side lines rods
  unfolding fewest
  found_yard b e = found_in 0 (yards c side) (yards_sound c side b) e
