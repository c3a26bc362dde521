-- §6.6: how far the fault current of a case may grow; and §10.2: which changes never make a safe yard unsafe.
use Rattle.std.specs.Prelude.{ℕ, ◌≤◌}
use mathlib.Core.{Path.{◌≡◌}, Logic.{◌⊎◌, ◌↔◌}}
use Rattle.case.specs.{declared.Case.{Case}, Bounds.{Between}, Fault.{with_fault}}
use Rattle.decision.specs.declared.Verdict.TheVariants.{Safe}
use Rattle.hocsimbur.specs.{Asked.{RowAnswered, AnsweredWith}}
use Rattle.claims.specs.Record.{RecordRefused, RecordSound}
use Rattle.std.specs.Prelude.{Some, None, Result, Ok, Option}
use Rattle.refusal.specs.{declared.Refused.{Refused}, Refused.{refuse}}
use Rattle.row.specs.declared.Row.{Row}

-- a fault current in the range of its column
abbrev pub FaultInside : ℕ → Type 0
FaultInside f = Between 100 f 80000

-- §6.6: "after the checks of one case (5, 6), the greatest fault current in 100..80000 at which the case, all else equal, is answered safe,
-- or none": every answer, each with its condition; the checks exclude the others (Answers.antt)
pub data HeadroomOutcome (c : Case) : Result (Option ℕ) Refused → Type 0 where
  refused : {number line column : ℕ} → RecordRefused c number line column → HeadroomOutcome c (refuse number line column)
  -- "with F, every fault current in range is answered safe if and only if it is at most F"
  up_to : {F : ℕ} → RecordSound c → FaultInside F
      → ((f : ℕ) (a : Result Row Refused) → FaultInside f → RowAnswered (with_fault f c) a → AnsweredWith Safe a ↔ f ≤ F) → HeadroomOutcome c (Ok (Some F))
  -- "with none, none is"
  none : RecordSound c → ((f : ℕ) (a : Result Row Refused) → FaultInside f → RowAnswered (with_fault f c) a → ¬ AnsweredWith Safe a)
      → HeadroomOutcome c (Ok None)

-- §10.2: the values of a case that may be eased are in their ranges
pub record EasedInside (d : Case) : Type 0 where
  pub station : Between 1 d.station 65535
  pub season : Between 1 d.season 4
  pub fault : FaultInside d.fault
  pub split : Between 1 d.split 1000
  pub shock : 9 ≤ d.shock
  pub body : (d.body ≡ 50) ⊎ (d.body ≡ 70)
