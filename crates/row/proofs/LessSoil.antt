-- §10.3, by the exact values: were the case with the lower resistivity unsafe, one of its voltages would be above what is tolerable at some
-- depth, and so with the higher resistivity.
use Prim.Native.Nat.{ℕ, ◌≤◌}
use mathlib.Core.{Path.{◌≡◌, sym, ap, ◌∙◌}, Logic.{⊎_elim}}
use Rattle.case.specs.{declared.Case.{Case}, Bounds.{Bounds}, Key.{under_key}, Soil.{with_soil}}
use Rattle.formulas.proofs.LessSoil.{mesh_above, step_above}
use Rattle.decision.specs.declared.Verdict.TheVariants.{Safe, Unsafe}
use Rattle.row.specs.{Row.{verdict_of}, Ends.{case_verdict, row_of}, LessSoil.{LessSoil}}
use Rattle.row.proofs.Right.{right_row}

module _ {c : Case} (b : Bounds c) where
  never_unsafe : (station season soil : ℕ) → Bounds (under_key station season (with_soil soil c)) → soil ≤ c.soil
      → case_verdict c ≡ Safe → case_verdict (under_key station season (with_soil soil c)) ≡ Unsafe → ⊥
  unfolding case_verdict verdict_of row_of
  never_unsafe station season soil b' l e u =
      let safe = (right_row b).safe_true e in
      ⊎_elim (λ a. safe.0 (mesh_above station season soil b b' l a)) (λ a. safe.1 (step_above station season soil b b' l a))
      ((right_row b').unsafe_true u)

  -- the theorem
  pub drier_decides : {d : Case} → Bounds d → LessSoil c d → case_verdict c ≡ Safe → case_verdict d ≡ Unsafe → ⊥
  drier_decides {d} b' l e u =
      never_unsafe d.station d.season d.soil (rw l.all_else at b') l.less e (sym (ap case_verdict l.all_else) ∙ u)
