-- §6.5: what the margins of a case's row say of the exact values and of the verdict.
use Rattle.std.specs.Prelude.{ℕ, ◌+◌, ◌*◌, ◌≤◌, ◌<◌, ◌≡◌, Option, Some, None}
use Rattle.std.proofs.Common.{zero-lt-suc}
use lib.{IntN.{ℤ, pos}, Signed.{◌≤ℤ◌}}
use Rattle.whole.specs.Signed.{plus, minus}
use Rattle.exact.specs.{Fraction.{Fraction}, Exact.{exactly, ◌·x◌, AtOrBelow}}
use Rattle.case.specs.declared.Case.{Case}
use Rattle.formulas.specs.Tolerable.{tolerable_touch, tolerable_step}
use Rattle.formulas.specs.Mesh as Mesh
use Rattle.formulas.specs.Step as Step
use Rattle.decision.specs.declared.Verdict.TheVariants.{Safe}
use Rattle.row.specs.Ends.{case_verdict}
use Rattle.margin.specs.Margin.{whole}

-- the smallest whole number m with 1000·voltage ≤ (1000 + m)·tolerable
pub record IsMargin (voltage tolerable : ℕ) (m : ℤ) : Type 0 where
  pub enough : whole * voltage + minus m * tolerable ≤ (whole + plus m) * tolerable
  pub least : (whole + plus m) * tolerable < whole * voltage + minus m * tolerable + tolerable

-- all of a voltage and m tenths of a percent more
unfoldable pub share : ℤ → Fraction
share m = record { plus = whole + plus m; minus = minus m; den = whole; positive = zero-lt-suc 999 }

-- the exact voltages are at or below that share of what is tolerable, and the row is safe exactly where neither margin is above 0
pub record RightMargins (c : Case) (mesh step : ℤ) : Type 0 where
  pub mesh_below : AtOrBelow (Mesh.mesh c) (exactly (share mesh) ·x tolerable_touch c)
  pub step_below : AtOrBelow (Step.step c) (exactly (share step) ·x tolerable_step c)
  pub safe_both : case_verdict c ≡ Safe → (mesh ≤ℤ pos 0) × (step ≤ℤ pos 0)
  pub both_safe : mesh ≤ℤ pos 0 → step ≤ℤ pos 0 → case_verdict c ≡ Safe

-- a case's row has margins
unfoldable pub Right : Case → Option (ℤ × ℤ) → Type 0
Right c (Some (mesh, step)) = RightMargins c mesh step
Right c None = ⊥
