-- The answer to every sheet and table length, and the cases of a sheet. §2.1, §2.2, §3.1: "The order is 1, 2, 4; then line by line 3, 5, 6,
-- 7; then 8."
use Rattle.std.specs.Prelude.{ℕ, ◌*◌}
use mathlib.Core.{Bool.{cond}, List.{List, map}}
use Rattle.std.specs.Prelude.{ltb}
use Rattle.text.specs.Text.{fields_of}
use Rattle.case.specs.{declared.Case.{Case}, Columns.{columns}}
use Rattle.header.specs.Header.{columns_of}
use Rattle.line.specs.Line.{line_case}
use Rattle.row.specs.Row.{row_length}
use Rattle.judgement.specs.Sheet.{names, value_lines, judgement}
use Rattle.sheet.specs.declared.Answer.{Answer, TheVariants.{Rows, Refused}}
use Rattle.std.specs.Prelude.{Result, Ok, Err}
use Rattle.refusal.specs.{declared.Refused.{Refused as Refusal}}

-- the cases of a sheet's value lines
unfoldable pub cases : List ℕ → List Case
cases s = map (λ line. line_case (columns_of columns (names s)) (fields_of line)) (value_lines s)

-- "table shorter than 17 numbers a line"; today 20 (§3.1)
unfoldable pub table_refused : Answer
table_refused = Refused 8 0 0

-- 1 to 7 by the judgement of the sheet, then 8, or the count of rows
unfoldable pub answer_by : ℕ → Result ℕ Refusal → Answer
answer_by room (Ok count) = cond (ltb room (row_length * count)) table_refused (Rows count)
answer_by room (Err why) = Refused why.0 why.1 why.2

unfoldable pub answer : List ℕ → ℕ → Answer
answer s room = answer_by room (judgement columns s)
