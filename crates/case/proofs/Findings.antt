-- The finding of a form's values by what its parts find.
use Prim.Native.Nat.{ℕ, ◌+◌, ◌≤◌}
use mathlib.Core.{Path.{◌≡◌, refl, sym, ◌∙◌}, Bool.{true, false, cond, ◌&&◌}, List.{List}}
use native.Mathlib.Omega.{arith}
use lib.ListN.{length, get_or}
use borrow.Author.Tests.{eq-eqb, ne_eqb}
use Rattle.text.specs.Text.{same}
use Rattle.case.specs.declared.Form.{Form as CodeForm, TheVariants.{Present, Former}}
use Rattle.case.specs.declared.Finding.TheVariants.{Sound, OutOfRange, Disagreement}
use Rattle.case.specs.Columns.{Form, columns, former_columns, name_count, name_count_lem, former_name_count_lem, name_index, named}
use Rattle.case.specs.{Check.{out_of_range, agree, disagreement, finding}, Parts.{form_of, rods_place, RodsPlace}}

-- the places that must agree are within each form
pub rods_place_lem : (form : CodeForm) → RodsPlace form (rods_place form)
unfolding form_of rods_place
rods_place_lem Present =
    record { is = refl; thick = omega (arith, name_count_lem); place = omega (arith, name_count_lem); most = omega (arith, name_count_lem) }
rods_place_lem Former =
    record {
      is = refl;
      thick = omega (arith, former_name_count_lem);
      place = omega (arith, former_name_count_lem);
      most = omega (arith, former_name_count_lem);
    }

pub form_most : (form : CodeForm) → length (form_of form) ≤ name_count
form_most form = (rods_place_lem form).most

module _ (form : CodeForm) (at v : List ℕ) where
  -- the finding by the places of the names
  disagreement_is : disagreement (form_of form) at v
      ≡ cond (agree (get_or v 3 0) (get_or v 4 0))
      (cond (agree (get_or v (rods_place form) 0) (get_or v (rods_place form + 1) 0) && agree (get_or v (rods_place form) 0)
      (get_or v (rods_place form + 2) 0)) Sound
      (Disagreement (get_or at (rods_place form) 0)))
      (Disagreement (get_or at 3 0))
  unfolding disagreement named name_index columns former_columns same form_of rods_place
  disagreement_is = go form
    where
      go : (f : CodeForm) → disagreement (form_of f) at v
          ≡ cond (agree (get_or v 3 0) (get_or v 4 0))
          (cond (agree (get_or v (rods_place f) 0) (get_or v (rods_place f + 1) 0) && agree (get_or v (rods_place f) 0) (get_or v (rods_place f + 2) 0))
          Sound
          (Disagreement (get_or at (rods_place f) 0)))
          (Disagreement (get_or at 3 0))
      go Present = refl
      go Former = refl

  pub layer_disagrees : agree (get_or v 3 0) (get_or v 4 0) ≡ false → Disagreement (get_or at 3 0) ≡ disagreement (form_of form) at v
  layer_disagrees p = sym (disagreement_is ∙ rw p)

  module _ {r : ℕ} (place : r ≡ rods_place form) (layer : agree (get_or v 3 0) (get_or v 4 0) ≡ true) where
    pub rodlen_disagrees : agree (get_or v r 0) (get_or v (r + 1) 0) ≡ false → Disagreement (get_or at r 0) ≡ disagreement (form_of form) at v
    rodlen_disagrees q = sym (disagreement_is ∙ rw (← place, layer, q))

    pub place_disagrees : agree (get_or v r 0) (get_or v (r + 1) 0) ≡ true → agree (get_or v r 0) (get_or v (r + 2) 0) ≡ false
        → Disagreement (get_or at r 0) ≡ disagreement (form_of form) at v
    place_disagrees q t = sym (disagreement_is ∙ rw (← place, layer, q, t))

    pub all_agree : agree (get_or v r 0) (get_or v (r + 1) 0) ≡ true → agree (get_or v r 0) (get_or v (r + 2) 0) ≡ true
        → Sound ≡ disagreement (form_of form) at v
    all_agree q t = sym (disagreement_is ∙ rw (← place, layer, q, t))

module _ (form : Form) (at v : List ℕ) {column : ℕ} (first : column ≡ out_of_range form at v) where
  pub out_of_range_lem : (column ≡ 0 → ⊥) → OutOfRange column ≡ finding form at v
  unfolding finding
  out_of_range_lem h = rw (← first, ne_eqb column 0 h)

  pub all_in_range : column ≡ 0 → disagreement form at v ≡ finding form at v
  unfolding finding
  all_in_range h = rw (← first, eq-eqb column 0 h)
