-- The line of what is shown of a row, and the five numbers of its margins.
use Prim.Native.Nat.{suc}
use mathlib.Core.{Path.{◌≡◌, refl}, List.{List, [], ◌∷◌}}
use lib.{IntN.{ℤ, pos}, ListN.{length, take}}
use Rattle.std.specs.Prelude.{Option, Some, None, unwrap_or}
use Rattle.writing.specs.Text.{ended}
use Rattle.row.specs.Places.{verdict_place}
use Rattle.margin.specs.Margin.{margins_of}
use Rattle.row_text.specs.{declared.Shown.{Shown, TheVariants.{Verdict, Numbers, Margins}}, Margins.{two_margins}}
use Rattle.row_text.specs.Shown.{margin_numbers, shown_fields, shown_line}
use Rattle.fields.specs.Fields.{line_of}

module _ {what : Shown} (row : List ℤ) where
  pub verdict_line_lem : what ≡ Verdict → ended (shown_line what row) ≡ line_of verdict_place (take 4 row)
  unfolding shown_line shown_fields line_of
  verdict_line_lem e = rw e

  pub numbers_line : what ≡ Numbers → ended (shown_line what row) ≡ line_of (length row) row
  unfolding shown_line shown_fields line_of
  numbers_line e = rw e

  pub margins_line : what ≡ Margins → ended (shown_line what row) ≡ line_of verdict_place (margin_numbers row)
  unfolding shown_line shown_fields line_of
  margins_line e = rw e

-- ---- the five numbers

pub margins_five : (row : List ℤ) → length (margin_numbers row) ≡ 5
unfolding margin_numbers two_margins
margins_five row = go (margins_of row)
  where
    go : (c : Option (ℤ × ℤ)) → suc (suc (suc (length (two_margins c)))) ≡ 5
    go (Some (mesh, step)) = refl
    go None = refl

-- a row without margins would be shown with 0 twice
pub margins_or : (told : Option (ℤ × ℤ)) → let two = unwrap_or told (pos 0, pos 0) in two.0 ∷ two.1 ∷ [] ≡ two_margins told
unfolding two_margins
margins_or (Some (mesh, step)) = refl
margins_or None = refl
