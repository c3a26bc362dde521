-- §9.1: what is promised of the answer to every list of readings.
use Rattle.std.specs.Prelude.{ℕ}
use mathlib.Core.{Path.{◌≡◌}, List.{List}}
use Rattle.readings.specs.{Reading.{Reading, pairs_of}, Refusal.{answer_of}}
use Rattle.readings.specs.{Report.{RightReport}, Ends.{report_of}}
use Rattle.std.specs.Prelude.{Result, Ok, Err}
use Rattle.refusal.specs.{declared.Refused.{Refused}}
use Rattle.readings.specs.declared.Report.{Report}

-- a report is right; nothing is required of a refusal here
unfoldable pub RightAnswer : List Reading → Result Report Refused → Type 0
RightAnswer ps (Ok r) = RightReport ps r
RightAnswer ps (Err why) = Unit {0}

-- the answer by the name of its report, and what holds of the report, its free part. Two wrong programs: one that refuses every list breaks
-- `answer`; one that takes π for one fraction, by that name, breaks `right`.
pub record Answered (numbers : List ℕ) (r : Result Report Refused) : Type 0 where
  pub answer : r ≡ answer_of report_of numbers
  pub right : RightAnswer (pairs_of numbers) r
