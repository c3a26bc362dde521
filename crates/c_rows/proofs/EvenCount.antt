-- What stands in the part of a row while its numbers are put, two a step.
use Rattle.std.proofs.Common.{ℕ, ℤ, ◌%◌, ◌≤◌, ◌≡◌, List}
use Rattle.row.specs.Row.{row_length}
use Rattle.c_rows.specs.Rows.{row_bytes}
use Rattle.c_rows.proofs.Putting.{PutTo}

-- an even count of numbers is put
pub record Even (numbers : List ℤ) (part : List ℕ) (i : ℕ) : Type 0 where
  pub put : PutTo numbers row_bytes i part
  pub most : i ≤ row_length
  pub even : i % 2 ≡ 0
