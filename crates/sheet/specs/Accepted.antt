-- What holds of a sheet and a table whose answer is a count of rows (§3.1): proved in proofs/Accepted.antt.
use Rattle.std.specs.Prelude.{ℕ, ◌*◌, ◌≤◌, List}
use Rattle.case.specs.Columns.{columns}
use Rattle.row.specs.Row.{row_length}
use Rattle.judgement.specs.Accepted as judged

-- a sheet of n rows that fit a table of `room` numbers
pub record Accepted (s : List ℕ) (room n : ℕ) : Type 0 where
  pub sheet : judged.Accepted columns s n
  pub fits : row_length * n ≤ room
