-- Rows as bytes. §11.2: "rows come back as eight-byte little-endian signed numbers .. bytes past the last row keep what they held. A buffer
-- short of 160 bytes a line is refused with 8."
use Rattle.std.specs.Prelude.{ℕ}
use mathlib.Core.{Path.{◌≡◌}, List.{List, []}}
use Rattle.std.specs.Prelude.{length, get_or}
use Rattle.tables.specs.Parts as parts
use Rattle.case.specs.{declared.Case.{Case}, Case.{case_of}}
use Rattle.row.specs.{Row.{numbers, row_length}, Ends.{row_of}}
use Rattle.table_rows.specs.Rows.{RowOf}
use Rattle.c_bytes.specs.Bytes.{bytes_of_all, numbers_of}

-- "160 bytes a line"
abbrev pub row_bytes : ℕ
row_bytes = 160

-- some bytes are the row of a case: those of its numbers; and what is read from them is the row of the case that the sheet's own question
-- puts in its table, which is right
pub record RowBytes (c : Case) (part : List ℕ) : Type 0 where
  pub is : part ≡ bytes_of_all (numbers (row_of c))
  pub read : RowOf c (numbers_of row_length part)

-- every case has its own row, in order; "bytes past the last row keep what they held"
abbrev pub Filled : List Case → List ℕ → List ℕ → Type 0
Filled cs before after = parts.Filled row_bytes (λ i part. RowBytes (get_or cs i (case_of [])) part) (length cs) before after
