-- §6.7: the fewest lines for the case of a sheet's one value line and a side.
use Rattle.std.specs.Prelude.{ℕ}
use mathlib.Core.{Path.{◌≡◌}, List.{List}}
use Rattle.case.specs.declared.Case.{Case}
use Rattle.yards.specs.{Fewest.{answer, FewestAnswered}}
use Rattle.one_line.specs.Sheet.{sheet_judged, case_in}
use Rattle.std.specs.Prelude.{Result, Ok, Err}
use Rattle.refusal.specs.{declared.Refused.{Refused}, Refused.{refuse}}
use Rattle.yards.specs.declared.FewestLines.{FewestLines}

-- the sheet's refusals come first, then the answer of the search
unfoldable pub answer_by : Case → ℕ → Result (Unit {0}) Refused → Result FewestLines Refused
answer_by c side (Err why) = Err why
answer_by c side (Ok read) = answer c side

unfoldable pub sheet_answer : List ℕ → ℕ → Result FewestLines Refused
sheet_answer s side = answer_by (case_in s) side (sheet_judged s)

-- Two wrong programs: one that takes a sheet without its last byte 10 breaks `answer_is`, and so does one that checks all values of the
-- line, those that the search does not read too.
pub record SheetFewest (s : List ℕ) (side : ℕ) (r : Result FewestLines Refused) : Type 0 where
  pub answer_is : r ≡ sheet_answer s side
  pub searched : sheet_judged s ≡ Ok tt → FewestAnswered (case_in s) side r
