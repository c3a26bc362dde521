-- §3.2: a yard that may be released is answered safe, its exact voltages are safe, and no yard answered safe is held back.
use mathlib.Core.{Path.{◌≡◌}, Bool.{Bool, true}}
use Rattle.std.specs.Prelude.{Ok}
use Rattle.exact.specs.Exact.{AtOrBelow}
use Rattle.case.specs.declared.Case.{Case}
use Rattle.formulas.specs.Mesh as Mesh
use Rattle.formulas.specs.Step as Step
use Rattle.formulas.specs.Tolerable.{tolerable_touch, tolerable_step}
use Rattle.decision.specs.declared.Verdict.TheVariants.{Safe}
use Rattle.row.specs.declared.Row.{Row}
use Rattle.hocsimbur.specs.Asked.{row_answer, AnsweredWith}

pub record Released (c : Case) (r : Bool) : Type 0 where
  pub safe : r ≡ true → AnsweredWith Safe (row_answer c)
  pub touch : r ≡ true → AtOrBelow (Mesh.mesh c) (tolerable_touch c)
  pub step : r ≡ true → AtOrBelow (Step.step c) (tolerable_step c)
  pub none_held_back : (row : Row) → row_answer c ≡ Ok row → row.verdict ≡ Safe → r ≡ true
