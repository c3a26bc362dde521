-- The search for the first pair with a number out of range, among the numbers two by two.
use Prim.Native.Nat.{ℕ, suc, ◌+◌, ◌-◌, ◌≤◌, ◌<◌}
use mathlib.Core.{Path.{◌≡◌, refl}, Bool.{Bool, not, cond}, List.{List, [], ◌∷◌, map}, Logic.{◌⊎◌, inl, inr}}
use native.Mathlib.{Omega.{arith}, Nat.{eq-or-lt_of_le}}
use Rattle.std.proofs.Common.{position, slice_index, nat_lt}
use Rattle.std.specs.{Option.{option_map}, Prelude.{Option, Some, None}}
use Rattle.readings.specs.{declared.outside.Range.{Range}, Reading.{Reading}, Limits.{in_range}}
use Rattle.readings.specs.Refusal.{number_in, first_outside}
use Rattle.readings.proofs.Pairs.{numbers}

-- what the code tests of two numbers
abbrev pub outside : Range → ℕ → List ℕ → Bool
outside range column pair = not (in_range range (slice_index pair (column - 1)))

-- one pair before the others, of which p pass
one_more : (inside : Bool) (p n place : ℕ) {found : Option ℕ} → option_map (λ k. k + suc place) (cond (nat_lt p n) (Some p) None) ≡ found
    → let q = cond (not (not inside)) (1 + p) 0 in
    option_map (λ k. k + place) (cond (nat_lt q (suc n)) (Some q) None) ≡ cond inside found (Some place)
one_more inside p n place e = grind arith

module _ (range : Range) (column : ℕ) (h : 1 ≤ column) (l : column ≤ 2) where
  number_is : (p : Reading) → slice_index (numbers p) (column - 1) ≡ number_in column p
  unfolding number_in
  number_is p = go (eq-or-lt_of_le h)
    where
      go : (1 ≡ column) ⊎ (1 < column) → slice_index (numbers p) (column - 1) ≡ number_in column p
      go (inl e) = rw (← e)
      go (inr m) = let e : column ≡ 2 = omega arith in rw e

  pub found_at : (ps : List Reading) (place : ℕ)
      → option_map (λ k. k + place) (position (outside range column) (map numbers ps)) ≡ first_outside range column place ps
  unfolding first_outside
  found_at [] place = refl
  found_at (p ∷ ps) place = rw (← number_is p) (one_more _ _ _ place (found_at ps (suc place)))
