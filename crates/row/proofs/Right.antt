-- The row of a case within its bounds is right: the ends are right reports, and the verdict is true of the exact values.
use mathlib.Core.Path.{◌≡◌, refl}
use Rattle.exact.specs.Reported.{reported, AtMost, Reports}
use Rattle.enclosure.proofs.Reporting.{reports}
use Rattle.case.specs.{declared.Case.{Case}, Bounds.{Bounds}}
use Rattle.formulas.specs.Width.{m_v, μΩ, μA, tolerable_width, resistance_width, rise_width, mesh_width, step_width}
use Rattle.formulas.proofs.Consistent.{consistent_touch, consistent_tolerable_step, consistent_mesh, consistent_step, quantity_resistance}
use Rattle.formulas.proofs.Consistent.{consistent_rise}
use Rattle.formulas.specs.Tolerable as Tolerable
use Rattle.formulas.specs.Mesh as Mesh
use Rattle.formulas.specs.Resistance as R
use Rattle.formulas.specs.Step as Step
use Rattle.tolerable.specs.Ends.{touch_ends, step_ends}
use Rattle.tolerable.proofs.Enclosed as T
use Rattle.tolerable.proofs.Widths as TW
use Rattle.decision.proofs.Verdicts.{Enclosed, safe_true, unsafe_true}
use Rattle.decrement.proofs.Right.{factor_reports}
use Rattle.current.proofs.GridCurrent.{current_reports}
use Rattle.resistance.{specs.Ends.{resistance_ends}, proofs.{Enclosed.{resistance_encloses}, Widths.{resistance_narrow}}}
use Rattle.resistance.proofs.Rise.{rise_encloses, rise_narrow}
use Rattle.step.specs.Ends.{step_voltage_ends}
use Rattle.step.proofs.Enclosed as S
use Rattle.step.proofs.Widths as SW
use Rattle.mesh.{specs.Ends.{mesh_ends}, proofs.{Enclosed.{mesh_encloses}, Widths.{mesh_narrow}}}
use Rattle.row.specs.{Row.{RightRow, verdict_of}, Ends.{case_verdict, row_of}}

module _ {c : Case} (b : Bounds c) where
  pub tolerable_touch_reports : Reports (Tolerable.tolerable_touch c) m_v tolerable_width (touch_ends c)
  tolerable_touch_reports = reports tolerable_width (consistent_touch b) (T.touch_encloses b) (TW.touch_narrow b)

  pub tolerable_step_reports : Reports (Tolerable.tolerable_step c) m_v tolerable_width (step_ends c)
  tolerable_step_reports = reports tolerable_width (consistent_tolerable_step b) (T.step_encloses b) (TW.step_narrow b)

  pub resistance_reports : Reports (R.resistance c) μΩ resistance_width (resistance_ends c)
  resistance_reports = reports resistance_width (quantity_resistance b).consistent (resistance_encloses b) (resistance_narrow b)

  tolerable_touch_enclosed : Enclosed m_v (Tolerable.tolerable_touch c) (touch_ends c)
  tolerable_touch_enclosed = record { consistent = consistent_touch b; encloses = T.touch_encloses b }

  tolerable_step_enclosed : Enclosed m_v (Tolerable.tolerable_step c) (step_ends c)
  tolerable_step_enclosed = record { consistent = consistent_tolerable_step b; encloses = T.step_encloses b }

  mesh_enclosed : Enclosed m_v (Mesh.mesh c) (mesh_ends c)
  mesh_enclosed = record { consistent = consistent_mesh b; encloses = mesh_encloses b }

  step_enclosed : Enclosed m_v (Step.step c) (step_voltage_ends c)
  step_enclosed = record { consistent = consistent_step b; encloses = S.step_encloses b }

  -- the width of the row's own pair
  mesh_width_lem : AtMost (mesh_width c (reported μA (row_of c).current)) (reported m_v (row_of c).mesh)
  unfolding row_of
  mesh_width_lem = mesh_narrow b

  pub right_row : RightRow c (row_of c)
  unfolding row_of case_verdict verdict_of
  right_row =
      record {
        station = refl;
        season = refl;
        verdict = refl;
        size = refl;
        current = current_reports b;
        factor = factor_reports b;
        tolerable_touch_lem = tolerable_touch_reports;
        tolerable_step_lem = tolerable_step_reports;
        mesh = reports (λ A. mesh_width c (reported μA (row_of c).current)) (consistent_mesh b) (mesh_encloses b) mesh_width_lem;
        step = reports (λ A. step_width c (reported μA (row_of c).current)) (consistent_step b) (S.step_encloses b) (SW.step_narrow b);
        resistance = resistance_reports;
        rise = reports rise_width (consistent_rise b) (rise_encloses b) (rise_narrow b);
        safe_true = safe_true tolerable_touch_enclosed tolerable_step_enclosed mesh_enclosed step_enclosed;
        unsafe_true = unsafe_true tolerable_touch_enclosed tolerable_step_enclosed mesh_enclosed step_enclosed;
      }

-- the verdict under its own name
pub row_verdict : (c : Case) → (row_of c).verdict ≡ case_verdict c
unfolding row_of
row_verdict c = refl
