-- §6.4: the working of one case asked as a record: every answer that the question can give, each with its condition.
use Rattle.std.specs.Prelude.{ℕ, ◌≡◌}
use Rattle.interval.specs.Operations.{product_of}
use Rattle.case.specs.declared.Case.{Case}
use Rattle.row.specs.declared.Row.{Row}
use Rattle.hocsimbur.specs.Asked.{RowAnswered}
use Rattle.working.specs.{declared.{Quantities.{Quantities}}, Working.{RightWorking}}
use Rattle.claims.specs.Record.{RecordRefused, RecordSound}
use Rattle.std.specs.Prelude.{Result, Ok}
use Rattle.refusal.specs.{declared.Refused.{Refused}, Refused.{refuse}}

-- the mesh voltage in the case's row is the product of the pairs of ρ·Ki·IG/LM and of Km, in mV and 10^−7, rounded outward
pub record RowFollows (c : Case) (w : Quantities) : Type 0 where
  pub mesh : {r : Row} → RowAnswered c (Ok r) → r.mesh ≡ product_of w.driven w.km 10000000

-- a refusal 5 or 6 as for its row, or a pair of each quantity
pub data WorkingOutcome (c : Case) : Result Quantities Refused → Type 0 where
  refused : {number line column : ℕ} → RecordRefused c number line column → WorkingOutcome c (refuse number line column)
  working : {w : Quantities} → RecordSound c → RightWorking c w → RowFollows c w → WorkingOutcome c (Ok w)
