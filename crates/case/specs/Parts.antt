-- §1.2, §1.4: what the parts of the checks promise, by the table of names.
use Rattle.std.specs.Prelude.{ℕ, ◌+◌, ◌≤◌, ◌<◌}
use mathlib.Core.{Path.{◌≡◌}, Bool.{Bool, true, ◌&&◌, ◌||◌}, List.{List, []}}
use lib.{Dec.{leb, eqb}, ListN.{length, get_or}}
use Rattle.case.specs.Columns.{Range, from, zero_or, either, in_range, Column, Form, columns, name_count, former_columns, all_columns}
use Rattle.case.specs.declared.range.Range.{Range as CodeRange}
use Rattle.case.specs.{Columns.{all_count}, declared.Form.{Form as CodeForm, TheVariants.{Present, Former}}}

-- past the table's end
abbrev pub no_column : Column
no_column = record { name = []; range = from 0 0 }

-- the range of the name with index k
unfoldable pub range_at : Form → ℕ → Range
range_at form k = (get_or form k no_column).range

-- the table of names that the code's form stands for
unfoldable pub form_of : CodeForm → Form
form_of Present = columns
form_of Former = former_columns

-- the place of rods in each form, from 0
unfoldable pub rods_place : CodeForm → ℕ
rods_place Present = 17
rods_place Former = 14

-- the column with index k of a form is the one with index r of both forms
pub record SameColumn (form : CodeForm) (k r : ℕ) : Type 0 where
  pub within : r < all_count
  pub is : get_or all_columns r no_column ≡ get_or (form_of form) k no_column

-- r is that place; rodlen and place follow it, and layer and thick stand before it
pub record RodsPlace (form : CodeForm) (r : ℕ) : Type 0 where
  pub is : r ≡ rods_place form
  pub thick : 4 < length (form_of form)
  pub place : r + 2 < length (form_of form)
  pub most : length (form_of form) ≤ name_count

-- a range as three numbers: its low and its high end, and one value more that is in it
unfoldable pub low_of : Range → ℕ
low_of (from low high) = low
low_of (zero_or low high) = low
low_of (either a b) = a

unfoldable pub high_of : Range → ℕ
high_of (from low high) = high
high_of (zero_or low high) = high
high_of (either a b) = a

unfoldable pub other_of : Range → ℕ
other_of (from low high) = low
other_of (zero_or low high) = 0
other_of (either a b) = b

unfoldable pub numbers_of : Range → CodeRange
numbers_of r = record { low = low_of r; high = high_of r; other = other_of r }

-- the test by these: a value between the first two, or the third
unfoldable pub passes : CodeRange → ℕ → Bool
passes r x = (leb r.low x && leb x r.high) || eqb x r.other

-- every value of a form is in its range
pub record InRanges (form : Form) (v : List ℕ) : Type 0 where
  pub each : (k : ℕ) → k < length form → in_range (range_at form k) (get_or v k 0) ≡ true
