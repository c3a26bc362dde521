-- The answer of the station summary, and what it leaves in the two tables: one claim over every sheet and every two tables. §7.1.
use Rattle.std.specs.Prelude.{ℕ, ◌*◌}
use mathlib.Core.{Path.{◌≡◌}, Bool.{cond}, List.{List, map}}
use lib.{Dec.{ltb}, IntN.{ℤ}, ListN.{length}}
use Rattle.row.specs.{declared.Row.{Row}, Ends.{row_of}}
use Rattle.sheet.specs.{declared.Answer.{Answer}, Answer.{cases, answer}, Table.{Answered}}
use Rattle.sheet.specs.declared.Answer.TheVariants as sheet
use Rattle.station_sums.specs.Summary.{stations, station_length, summary_of, filled}
use Rattle.std.specs.Prelude.{Result, Ok, Err}
use Rattle.refusal.specs.{declared.Refused.{Refused}, Refused.{refuse}}
use Rattle.stations.specs.declared.Counts.{Counts}

-- the rows of a sheet: those of the sheet's own question
abbrev pub sheet_rows : List ℕ → List Row
sheet_rows s = map row_of (cases s)

-- how many rows a sheet has, and how many stations
abbrev pub counts : ℕ → ℕ → Counts
counts n m = record { rows = n; stations = m }

-- "20, 0, 0 when the summary table is shorter than six numbers a station"
unfoldable pub summary_refused : Result Counts Refused
summary_refused = refuse 20 0 0

-- the answer of the sheet's own question, then "last of all comes 20"; "The answer is the count of rows and the count of stations"
unfoldable pub answer_after : ℕ → List Row → Answer → Result Counts Refused
answer_after room rows (sheet.Rows count) =
    cond (ltb room (station_length * length (stations rows))) summary_refused (Ok (counts count (length (stations rows))))
answer_after room rows (sheet.Refused number line column) = refuse number line column

-- of a sheet, for a table of rows and a summary table of these lengths
unfoldable pub summary_answer : List ℕ → ℕ → ℕ → Result Counts Refused
summary_answer s rowsRoom room = answer_after room (sheet_rows s) (answer s rowsRoom)

-- the rows are what the sheet's own question leaves with a count of rows, and the summary is theirs
pub record Summarised (s : List ℕ) (count : ℕ) (rowsBefore rowsAfter before after : List ℤ) : Type 0 where
  pub rows : Answered s rowsBefore rowsAfter (sheet.Rows count)
  pub summary : after ≡ filled (summary_of (sheet_rows s)) before

-- "Any refusal leaves both tables untouched"
pub record Untouched (rowsBefore rowsAfter before after : List ℤ) : Type 0 where
  pub rows : rowsAfter ≡ rowsBefore
  pub summary : after ≡ before

unfoldable pub TablesAfter : List ℕ → List ℤ → List ℤ → List ℤ → List ℤ → Result Counts Refused → Type 0
TablesAfter s rowsBefore rowsAfter before after (Ok found) = Summarised s found.rows rowsBefore rowsAfter before after
TablesAfter s rowsBefore rowsAfter before after (Err why) = Untouched rowsBefore rowsAfter before after

-- the answer and what it leaves in both tables. Three wrong programs: one that names the later line on a tie, and one that refuses with 20
-- after the rows are written, break `tables_are`; one that tests the summary table before the table of rows breaks `answer_is`.
pub record SummaryAnswered (s : List ℕ) (rowsBefore rowsAfter before after : List ℤ) (r : Result Counts Refused) : Type 0 where
  pub answer_is : r ≡ summary_answer s (length rowsBefore) (length before)
  pub tables_are : TablesAfter s rowsBefore rowsAfter before after r
