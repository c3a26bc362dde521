-- The margins of a case's row are right.
use mathlib.Core.Path.{◌≡◌, refl, ◌∙◌}
use lib.{IntN.{ℤ, pos}, Signed.{◌≤ℤ◌}}
use Rattle.std.specs.Prelude.{Some}
use Rattle.whole.proofs.Choice.{pos≤, le_pos}
use Rattle.case.specs.{declared.Case.{Case}, Bounds.{Bounds}}
use Rattle.formulas.proofs.Consistent.{consistent_touch, consistent_tolerable_step, consistent_mesh, consistent_step}
use Rattle.tolerable.specs.Ends.{touch_ends, step_ends}
use Rattle.tolerable.proofs.Enclosed as T
use Rattle.decision.proofs.Verdicts.{safe_ends_lem, ends_safe}
use Rattle.step.specs.Ends.{step_voltage_ends}
use Rattle.step.proofs.Enclosed as S
use Rattle.mesh.{specs.Ends.{mesh_ends}, proofs.Enclosed.{mesh_encloses}}
use Rattle.row.specs.{Row.{numbers}, Ends.{case_verdict, row_of}}
use Rattle.margin.specs.{Margin.{margin, four_margins, margins_of}, Meaning.{RightMargins, Right}}
use Rattle.margin.proofs.{Voltages.{Voltages}, Least.{at_most_zero, zero_at_most}, Share.{share_below}}
use Rattle.margin.proofs.RowVoltages.{mesh_voltages, step_voltages, voltages_comparable}

-- the margin of two voltages that may be compared
margin_of : {voltage tolerable : ℤ} → Voltages voltage tolerable → ℤ
margin_of p = margin p.v.n p.t.n

module _ {voltage tolerable : ℤ} (p : Voltages voltage tolerable) where
  not_above : voltage ≤ℤ tolerable → margin_of p ≤ℤ pos 0
  unfolding margin_of
  not_above h = at_most_zero p.v.n p.t.from (le_pos (rw (p.v.is, p.t.is) at h))

  above_not : margin_of p ≤ℤ pos 0 → voltage ≤ℤ tolerable
  unfolding margin_of
  above_not h = rw (p.v.is, p.t.is) (pos≤ (zero_at_most p.v.n p.t.from h))

module _ {c : Case} (b : Bounds c) where
  mesh : ℤ
  mesh = margin_of (mesh_voltages b)

  step : ℤ
  step = margin_of (step_voltages b)

  -- the ends that are compared
  row_compared : margins_of (numbers (row_of c))
      ≡ four_margins (mesh_ends c).upper (touch_ends c).lower (step_voltage_ends c).upper (step_ends c).lower
  unfolding margins_of numbers row_of
  row_compared = refl

  row_margins : margins_of (numbers (row_of c)) ≡ Some (mesh, step)
  unfolding four_margins mesh step margin_of
  row_margins =
      row_compared
      ∙ rw (
        voltages_comparable (mesh_voltages b),
        voltages_comparable (step_voltages b),
        (mesh_voltages b).v.is,
        (mesh_voltages b).t.is,
        (step_voltages b).v.is,
        (step_voltages b).t.is,
      )

  right : RightMargins c mesh step
  unfolding mesh step margin_of case_verdict
  right =
      let m = mesh_voltages b in
      let s = step_voltages b in
      record {
        mesh_below =
            share_below m.v.n m.t.from (consistent_mesh b) (consistent_touch b) (mesh_encloses b) (T.touch_encloses b) m.v.is
            m.t.is;
        step_below =
            share_below s.v.n s.t.from (consistent_step b) (consistent_tolerable_step b) (S.step_encloses b) (T.step_encloses b)
            s.v.is s.t.is;
        safe_both =
            λ e. let h = safe_ends_lem (touch_ends c) (step_ends c) (mesh_ends c) (step_voltage_ends c) e
            in (not_above m h.0, not_above s h.1);
        both_safe = λ p q. ends_safe (touch_ends c) (step_ends c) (mesh_ends c) (step_voltage_ends c) (above_not m p) (above_not s q);
      }

  -- the law
  pub right_margins : Right c (margins_of (numbers (row_of c)))
  unfolding Right
  right_margins = rw row_margins right
