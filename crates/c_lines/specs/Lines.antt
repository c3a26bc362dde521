-- §11.3: the numbers of every value line of a sheet in an array that the caller lends: one claim over every question, every sheet and every
-- array.
use Rattle.std.specs.Prelude.{ℕ, ◌*◌}
use mathlib.Core.{Path.{◌≡◌}, Bool.{cond}, List.{List, []}}
use lib.{Dec.{ltb}, IntN.{ℤ}, ListN.{length, get_or}}
use Rattle.tables.specs.Parts as parts
use Rattle.case.specs.{declared.Case.{Case}, Case.{case_of}, Columns.{columns}}
use Rattle.judgement.specs.Sheet.{judgement}
use Rattle.sheet.specs.Answer.{cases}
use Rattle.c_tell.specs.Told.{Told}
use Rattle.c_line.specs.{declared.Question.{Question}, Line.{width_of, LineOf}}
use Rattle.std.specs.Prelude.{Result, Ok, Err}
use Rattle.refusal.specs.{declared.Refused.{Refused}, Refused.{refuse}}

-- the sheet's own refusals, then 8 where the array is shorter than the numbers of its lines, or the count of value lines
unfoldable pub lines_by : (width room : ℕ) → Result ℕ Refused → Result ℕ Refused
lines_by width room (Ok count) = cond (ltb room (width * count)) (refuse 8 0 0) (Ok count)
lines_by width room (Err why) = Err why

unfoldable pub lines_answer : Question → List ℕ → ℕ → Result ℕ Refused
lines_answer question s room = lines_by (width_of question) room (judgement columns s)

-- every case has its own numbers, in the sheet's order, and numbers past the last keep what they held
abbrev pub Filled : Question → List Case → List ℤ → List ℤ → Type 0
Filled question cs before after =
    parts.Filled (width_of question) (λ i part. LineOf question (get_or cs i (case_of [])) part) (length cs) before after

-- a refusal leaves the array as it was
unfoldable pub ArrayAfter : Question → List ℕ → List ℤ → List ℤ → Result ℕ Refused → Type 0
ArrayAfter question s before after (Ok count) = Filled question (cases s) before after
ArrayAfter question s before after (Err why) = after ≡ before

-- the answer to a sheet and what it leaves in the array
pub record LinesAnswered (question : Question) (s : List ℕ) (before after : List ℤ) (a : Result ℕ Refused) : Type 0 where
  pub answer_is : a ≡ lines_answer question s (length before)
  pub array_is : ArrayAfter question s before after a

-- §11.1: the same as reported to a program in C. Two wrong programs: one that puts the numbers of the first line in every part breaks
-- `asked`; one that answers how many numbers it wrote breaks `told`.
pub record LinesTold (question : Question) (s : List ℕ) (before after : List ℤ) (place pointed : List ℕ) (r : ℤ) : Type 0 where
  pub answer : Result ℕ Refused
  pub asked : LinesAnswered question s before after answer
  pub told : Told answer place pointed r
