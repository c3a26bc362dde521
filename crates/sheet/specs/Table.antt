-- The table after a sheet: one claim over every sheet, every table and every row. §2.3, §3.1, §3.2.
use Rattle.std.specs.Prelude.{ℕ}
use mathlib.Core.{Path.{◌≡◌}, List.{List}}
use lib.{IntN.{ℤ}, ListN.{length}}
use Rattle.tables.specs.Parts.{part_at}
use Rattle.row.specs.Row.{row_length}
use Rattle.table_rows.specs.Rows.{Filled}
use Rattle.sheet.specs.{declared.Answer.{Answer, TheVariants.{Rows, Refused}}, Answer.{answer, cases}}

-- the numbers of row i
abbrev pub row_at : List ℤ → ℕ → List ℤ
row_at table i = part_at row_length table i

-- "A refusal changes nothing in the table"
unfoldable pub TableAfter : List ℕ → List ℤ → List ℤ → Answer → Type 0
TableAfter s before after (Rows count) = Filled (cases s) before after
TableAfter s before after (Refused number line column) = after ≡ before

-- the answer to a sheet and what it leaves in the table. Two wrong programs: one that writes the row of each line over the row before it
-- breaks `table_is`; one that refuses every sheet breaks `answer_is`.
pub record Answered (s : List ℕ) (before after : List ℤ) (r : Answer) : Type 0 where
  pub answer_is : r ≡ answer s (length before)
  pub table_is : TableAfter s before after r
