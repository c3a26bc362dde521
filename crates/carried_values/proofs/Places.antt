-- Each value of a case in a form has a place among those in the other, except the frequency, which the former form does not have.
use Prim.Native.Nat.{ℕ, zero, suc, ◌≤◌, ◌<◌}
use mathlib.Core.{Path.{◌≡◌, refl, ap, ◌∙◌}, Bool.{cond}, List.{List, [], ◌∷◌, map}}
use native.Mathlib.{Decide.{dec_lt}, Omega.{arith}}
use borrow.Author.Tests.{lt-ltb, le-ltb}
use Rattle.std.proofs.lemmas.{Grind.{get_or_default_zero}, List.{get_or_past}}
use lib.{Dec.{ltb}, ListN.{length, get_or}}
use Rattle.text.specs.Text.{same}
use Rattle.case.specs.{declared.Form.{Form, TheVariants.{Present, Former}}, Parts.{form_of}}
use Rattle.case.specs.Columns.{columns, former_columns, name_index, named}
use Rattle.carried_values.specs.{Values.{other, present_values, former_values, carried}, Parts.{places_in}}

-- the value at a place, or 60 past the last
unfoldable pub picked : List ℕ → ℕ → ℕ
picked v p = cond (ltb p (length v)) (get_or v p 0) 60

-- a read that gives 60 past the last
pub picked_read : (v : List ℕ) (p : ℕ) → get_or v p 60 ≡ picked v p
unfolding picked
picked_read v p = go (dec_lt p (length v))
  where
    go : Dec (p < length v) → get_or v p 60 ≡ cond (ltb p (length v)) (get_or v p 0) 60
    go (yes h) = rw (lt-ltb p (length v) h) (get_or_default_zero v p 60 h)
    go (no h) = let l : length v ≤ p = omega arith in rw (le-ltb p (length v) l) (get_or_past v p 60 l)

all_picked : (form : Form) (v : List ℕ) → length v ≡ length (form_of (other form)) → carried form v ≡ map (picked v) (places_in form)
unfolding form_of other carried present_values former_values named name_index same columns former_columns places_in picked
all_picked Present v h = rw h refl
all_picked Former v h = rw h refl

at_map : (f : ℕ → ℕ) (xs : List ℕ) (k : ℕ) → k < length xs → get_or (map f xs) k 0 ≡ f (get_or xs k 0)
at_map f [] k h = absurd (omega arith)
at_map f (x ∷ xs) zero h = refl
at_map f (x ∷ xs) (suc k) h = at_map f xs k (omega arith)

places_count : (form : Form) → length (places_in form) ≡ length (form_of form)
unfolding places_in form_of columns former_columns
places_count Present = refl
places_count Former = refl

pub value_picked : (form : Form) (v : List ℕ) (k : ℕ) → length v ≡ length (form_of (other form)) → k < length (form_of form)
    → get_or (carried form v) k 0 ≡ picked v (get_or (places_in form) k 0)
value_picked form v k h l =
    ap (λ (w : List ℕ). get_or w k 0) (all_picked form v h) ∙ at_map (picked v) (places_in form) k (omega (arith, l, places_count form))
