-- How long a text is at most: at most 22 bytes a field, and at most twenty fields a row.
use Prim.Native.Nat.{ℕ, ◌*◌, ◌≤◌}
use mathlib.Core.{Path.{◌≡◌}, List.{List, [], ◌∷◌, map}}
use native.Mathlib.{Nat.{mul-le-mul_right}, Omega.{arith}}
use lib.{IntN.{ℤ}, ListN.{length, take, length-append}, Seq.{length-take-le}}
use Rattle.writing.specs.Text.{ended, text_of}
use Rattle.judgement.specs.Limits.{most_lines}
use Rattle.row.specs.Row.{row_length}
use Rattle.row_text.specs.declared.Shown.{Shown, TheVariants.{Verdict, Numbers, Margins}}
use Rattle.row_text.specs.{Shown.{margin_numbers, shown_fields, shown_line, lines_after}, Room.{field_bytes, name_bytes, text_room}}
use Rattle.fields.{specs.Fields.{line_of}, proofs.LineFields.{line_most}}
use Rattle.row_text.proofs.ShownLines.{margins_five}

-- as many numbers as a row may have
pub record Width (k : ℕ) : Type 0 where
  pub some : 4 ≤ k
  pub most : k ≤ row_length

pub shown_most : (what : Shown) (row : List ℤ) → Width (length row) → length (ended (shown_line what row)) ≤ field_bytes * row_length
unfolding shown_line shown_fields line_of
shown_most Verdict row w =
    let e : length (take 4 row) ≡ 4 = length-take-le 4 row w.some in
    omega (arith, line_most 2 (take 4 row) (omega arith))
shown_most Numbers row w = omega (arith, line_most (length row) row (omega (arith, w.some)), w.most)
shown_most Margins row w = omega (arith, line_most 2 (margin_numbers row) (omega (arith, margins_five row)), margins_five row)

-- rows made of some items, each with as many numbers as a row may have
module _ {A : Type 0} (what : Shown) (f : A → List ℤ) (width : (a : A) → Width (length (f a))) where
  lines_most : (xs : List A) → length (text_of (map (shown_line what) (map f xs))) ≤ length xs * (field_bytes * row_length)
  unfolding text_of
  lines_most [] = omega arith
  lines_most (a ∷ xs) = rw length-append (omega (arith, shown_most what (f a) (width a), lines_most xs))

  pub lines_fit : (names : List ℕ) (xs : List A) → length names ≤ name_bytes → length xs ≤ most_lines
      → length (lines_after names what (map f xs)) ≤ text_room
  unfolding lines_after
  lines_fit names xs n m = rw length-append (omega (arith, lines_most xs, mul-le-mul_right (field_bytes * row_length) m))
