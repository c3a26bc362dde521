-- §8.2, §8.3: what the parts of carrying a sheet over promise.
use Rattle.std.specs.Prelude.{ℕ}
use mathlib.Core.{Path.{◌≡◌}, List.{List, [], ◌∷◌, map}}
use Rattle.std.specs.Prelude.{length}
use Rattle.tables.specs.Parts.{parts_of}
use Rattle.case.specs.{declared.Form.{Form, TheVariants.{Present, Former}}, Parts.{form_of}}
use Rattle.carried_values.specs.Values.{other, carried}

-- where the values of a form stand among those of the other; the frequency is not among the former values, so its place is past the last of
-- them
unfoldable pub places_in : Form → List ℕ
places_in Present = 0 ∷ 1 ∷ 2 ∷ 3 ∷ 4 ∷ 5 ∷ 5 ∷ 5 ∷ 6 ∷ 7 ∷ 8 ∷ 9 ∷ 10 ∷ 10 ∷ 11 ∷ 12 ∷ 13 ∷ 14 ∷ 15 ∷ 16 ∷ 17 ∷ 18 ∷ []
places_in Former = 0 ∷ 1 ∷ 2 ∷ 3 ∷ 4 ∷ 5 ∷ 8 ∷ 9 ∷ 10 ∷ 11 ∷ 12 ∷ 14 ∷ 15 ∷ 16 ∷ 17 ∷ 18 ∷ 19 ∷ 20 ∷ []

-- n lines of values in a form stand in a store, from those in the other
pub record Converted (form : Form) (n : ℕ) (values before after : List ℕ) : Type 0 where
  pub size : length after ≡ length before
  pub lines : parts_of (length (form_of form)) n after ≡ map (carried form) (parts_of (length (form_of (other form))) n values)
