-- A released yard with the fault current of a later study. §10.1: "Planners ask whether a later fault study can upset a released design."
use Rattle.std.specs.Prelude.{ℕ, ◌≤◌, Result, Ok}
use mathlib.Core.{Path.{◌≡◌}, Bool.{Bool, true}}
use Rattle.refusal.specs.declared.Refused.{Refused}
use Rattle.case.specs.{declared.Case.{Case}, Fault.{with_fault}}
use Rattle.decision.specs.declared.Verdict.TheVariants.{Safe}
use Rattle.row.specs.declared.Row.{Row}
use Rattle.hocsimbur.specs.Asked.{row_answer, RowAnswered, AnsweredWith}

-- what stays released is answered safe with that current, and no yard answered safe is held back where the current is less
pub record StaysReleased (c : Case) (fault : ℕ) (r : Bool) : Type 0 where
  pub safe : r ≡ true → {later : Result Row Refused} → RowAnswered (with_fault fault c) later → AnsweredWith Safe later
  pub none_held_back : 100 ≤ fault → fault ≤ c.fault → (row : Row) → row_answer c ≡ Ok row → row.verdict ≡ Safe → r ≡ true
