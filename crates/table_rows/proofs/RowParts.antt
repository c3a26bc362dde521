-- The rows of a table fill one after the other.
use Prim.Native.Nat.{ℕ, ◌+◌, ◌*◌, ◌-◌, ◌≤◌}
use mathlib.Core.{Path.{◌≡◌}, List.{List}}
use native.Mathlib.Omega.{arith}
use lib.{IntN.{ℤ}, ListN.{length}}
use borrow.Rule.Slice.PartMut.{put_mid}
use Rattle.tables.{specs.Parts.{Written}, proofs.Writing.{put_written}}
use Rattle.row.specs.{declared.Row.{Row}, Row.{row_length, numbers, row_length_lem}}

-- the numbers of a row put in the place of row i
pub row_written : (i : ℕ) (t row : List ℤ) (r : Row) → row_length * i + row_length ≤ length t → row ≡ numbers r
    → Written row_length i (numbers r) t (put_mid (row_length * i) (row_length * (i + 1) - row_length * i) t row)
row_written i t row r h e =
    let next : row_length * (i + 1) ≡ row_length * i + row_length = omega arith in
    rw (next, e) (put_written row_length i t (numbers r) h (row_length_lem r))
