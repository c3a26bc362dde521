-- What an answer of the search says of its list: the place of the first safe yard, or that none is.
use Prim.Native.Nat.{ℕ, zero, suc, ◌+◌, ◌<◌}
use mathlib.Core.{Path.{◌≡◌, refl}, Bool.{Bool, true, false, cond}, List.{List, [], ◌∷◌}}
use native.Mathlib.Omega.{arith}
use lib.ListN.{length, get_or}
use Rattle.case.specs.declared.Case.{Case}
use Rattle.yards.specs.{declared.FewestLines.{FewestLines, TheVariants.{Found, None}}, Yards.{yards, is_safe}}
use Rattle.yards.specs.Fewest.{first_safe, fewest}

-- the yard with index `at` is safe and none before it is; d stands past the list's end
pub record First (d : Case) (ys : List Case) (lines rods at : ℕ) : Type 0 where
  pub within : at < length ys
  pub lines_are : (get_or ys at d).across ≡ lines
  pub rods_are : (get_or ys at d).rods ≡ rods
  pub safe : is_safe (get_or ys at d) ≡ true
  pub before : (i : ℕ) → i < at → is_safe (get_or ys i d) ≡ false

abbrev NoneSafe : Case → List Case → Type 0
NoneSafe d ys = (i : ℕ) → i < length ys → is_safe (get_or ys i d) ≡ false

-- after t yards: the place counts them, and so does the number of yards tried
unfoldable pub Says : Case → ℕ → List Case → FewestLines → Type 0
Says d t ys (Found lines rods place) = (at : ℕ) × (place ≡ t + at + 1) × First d ys lines rods at
Says d t ys (None tried) = (tried ≡ t + length ys) × NoneSafe d ys

module _ (d : Case) where
  later : (y : Case) (ys : List Case) (t : ℕ) → is_safe y ≡ false → (r : FewestLines) → Says d (suc t) ys r → Says d t (y ∷ ys) r
  unfolding Says
  later y ys t s (Found lines rods place) (at, e, f) = (
    suc at,
    omega arith,
    record {
      within = omega (arith, f.within);
      lines_are = f.lines_are;
      rods_are = f.rods_are;
      safe = f.safe;
      before = none;
    },
  )
    where
      none : (i : ℕ) → i < suc at → is_safe (get_or (y ∷ ys) i d) ≡ false
      none zero h = s
      none (suc i) h = f.before i (omega arith)
  later y ys t s (None tried) (e, n) = (omega arith, none)
    where
      none : (i : ℕ) → i < suc (length ys) → is_safe (get_or (y ∷ ys) i d) ≡ false
      none zero h = s
      none (suc i) h = n i (omega arith)

  says : (t : ℕ) (ys : List Case) → Says d t ys (first_safe t ys)
  unfolding Says first_safe
  says t [] = (omega arith, λ i h. absurd (omega arith))
  says t (y ∷ ys) = go (is_safe y) refl (says (suc t) ys)
    where
      go : (b : Bool) → is_safe y ≡ b → Says d (suc t) ys (first_safe (suc t) ys)
          → Says d t (y ∷ ys) (cond b (Found y.across y.rods (suc t)) (first_safe (suc t) ys))
      go true s r = (
        zero,
        omega arith,
        record {
          within = omega arith;
          lines_are = refl;
          rods_are = refl;
          safe = s;
          before = λ i h.
              absurd (omega arith);
        },
      )
      go false s r = later y ys t s (first_safe (suc t) ys) r

  pub fewest_says : (c : Case) (side : ℕ) → Says d 0 (yards c side) (fewest c side)
  unfolding fewest
  fewest_says c side = says 0 (yards c side)
