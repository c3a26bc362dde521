-- Rows written one after the other, from the values of a sheet's lines. §3.1.
use Rattle.std.specs.Prelude.{ℕ, ◌<◌}
use mathlib.Core.{Path.{◌≡◌}, List.{List, [], map}}
use lib.{IntN.{ℤ}, ListN.{length, get_or}}
use Rattle.tables.specs.Parts.{part_at, parts_of}
use Rattle.tables.specs.Parts as parts
use Rattle.case.specs.{declared.Case.{Case}, Case.{case_of}, Columns.{name_count}, Bounds.{Bounds}}
use Rattle.row.specs.{Row.{RightRow, numbers, row_length}, Ends.{row_of}}

-- some numbers are the row of a case, and that row is right. The case asked alone has the same row: claims/specs/Demands.antt,
-- `asked_alone`.
pub record RowOf (c : Case) (row : List ℤ) : Type 0 where
  pub is : row ≡ numbers (row_of c)
  pub right : RightRow c (row_of c)

-- the first n cases have their rows, in order, and nothing past them is changed
abbrev pub FilledTo : List Case → ℕ → List ℤ → List ℤ → Type 0
FilledTo cs n before after = parts.Filled row_length (λ i row. RowOf (get_or cs i (case_of [])) row) n before after

-- every case has its own row, in order, "Numbers past the last row keep what they held."
abbrev pub Filled : List Case → List ℤ → List ℤ → Type 0
Filled cs before after = FilledTo cs (length cs) before after

-- the cases of n lines of values that stand one after the other
unfoldable pub stored_cases : List ℕ → ℕ → List Case
stored_cases values n = map case_of (parts_of name_count n values)

-- each is within its bounds
abbrev pub StoredBounds : List ℕ → ℕ → Type 0
StoredBounds values n = (i : ℕ) → i < n → Bounds (case_of (part_at name_count values i))
