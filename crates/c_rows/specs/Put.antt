-- §11.2: numbers written as bytes, and a row written into the buffer.
use Rattle.std.specs.Prelude.{ℕ}
use mathlib.Core.{Path.{◌≡◌}, List.{List}}
use lib.{IntN.{ℤ}, ListN.{length}}
use Rattle.tables.specs.Parts.{Written}
use Rattle.case.specs.declared.Case.{Case}
use Rattle.row.specs.{Row.{numbers, row_length}, Ends.{row_of}}
use Rattle.c_bytes.specs.Bytes.{bytes_of_all, numbers_of}
use Rattle.c_rows.specs.Rows.{row_bytes}

-- some bytes are those of some numbers, and what is read from them is those numbers
pub record Put (zs : List ℤ) (part : List ℕ) : Type 0 where
  pub bytes : part ≡ bytes_of_all zs
  pub read : numbers_of (length zs) part ≡ zs

-- the bytes of the row of a case are row i of the buffer, and nothing else of it is changed; what is read from them is the row's numbers
pub record RowPut (c : Case) (i : ℕ) (before after : List ℕ) : Type 0 where
  pub written : Written row_bytes i (bytes_of_all (numbers (row_of c))) before after
  pub read : numbers_of row_length (bytes_of_all (numbers (row_of c))) ≡ numbers (row_of c)
