-- No more of the fault current enters the grid, no longer shock, no lighter body, all else equal: the ends of mesh and step voltage fall or
-- stay, those of the tolerable voltages rise or stay, so a safe yard stays safe.
use Prim.Native.Nat.{ℕ, ◌*◌, ◌≤◌}
use mathlib.Core.Path.{◌≡◌, refl, ap, ◌∙◌}
use Rattle.whole.proofs.Choice.{≤ℤ_trans}
use Rattle.interval.{specs.declared.Interval.{Interval}, proofs.Below.{Below, below_upper, below_lower}}
use Rattle.case.specs.{declared.Case.{Case}, Bounds.{Bounds}, Key.{under_key}, Eased.{eased}}
use Rattle.tolerable.specs.Ends.{layered, layer_ends, body_factor, time_root, top_ends, tolerable_ends, touch_ends, step_ends}
use Rattle.tolerable.proofs.NoWorse.{tolerable_touch_rises, tolerable_step_rises}
use Rattle.lengths.specs.Lengths.{lc_mm, lr_mm, lt_mm}
use Rattle.decision.{specs.{declared.Verdict.TheVariants.{Safe}, Verdict.{verdict}}, proofs.Verdicts.{safe_ends_lem, ends_safe}}
use Rattle.decrement.specs.Ends.{exponent_ends, ratio_ends, rest_ends, square_ends, df_ends}
use Rattle.current.specs.Ends.{ig_ends}
use Rattle.drive.specs.Ends.{soil_current, drive_ends}
use Rattle.step.specs.Ends as Step
use Rattle.step.specs.Ends.{power_of_two, share_ends, reach, spacing_sum, ks_ends, ls_twentieths, step_voltage_ends}
use Rattle.step.proofs.NoWorse.{step_below}
use Rattle.mesh.specs.Factor.{argument_top, argument_bottom, argument_log, kh_ends, kii_ends, inner_term, km_ends}
use Rattle.mesh.{specs.Ends.{diagonal_ends, rod_weight, weighed_length, lm_ends, mesh_ends}, proofs.NoWorse.{mesh_below}}
use Rattle.mesh.specs.Ends as Mesh
use Rattle.row.specs.{Ends.{case_verdict}, NoWorse.{NoWorse}}

-- of four pairs that are safe, mesh and step may fall, and what is tolerable may rise
safe_eases : {t l m s t' l' m' s' : Interval} → Below t t' → Below l l' → Below m' m → Below s' s
    → verdict t l m s ≡ Safe → verdict t' l' m' s' ≡ Safe
safe_eases {t} {l} {m} {s} {t'} {l'} {m'} {s'} p q f g e =
    let h = safe_ends_lem t l m s e in
    ends_safe t' l' m' s' (≤ℤ_trans (below_upper f) (≤ℤ_trans h.0 (below_lower p)))
    (≤ℤ_trans (below_upper g) (≤ℤ_trans h.1 (below_lower q)))

-- ---- the verdict reads neither station nor season

same_verdict : (station season : ℕ) (c : Case) → case_verdict (under_key station season c) ≡ case_verdict c
unfolding case_verdict touch_ends step_ends tolerable_ends top_ends time_root body_factor layer_ends layered
    drive_ends soil_current ig_ends df_ends square_ends rest_ends ratio_ends exponent_ends lc_mm lr_mm lt_mm
    mesh_ends Mesh.driven_ends lm_ends weighed_length rod_weight diagonal_ends
    km_ends inner_term kii_ends kh_ends argument_log argument_top argument_bottom
    step_voltage_ends Step.driven_ends ls_twentieths ks_ends spacing_sum share_ends power_of_two reach
same_verdict station season c = refl

-- ---- no worse

module _ {c : Case} (b : Bounds c) where
  eased_safe : (fault split shock body : ℕ) → fault * split ≤ c.fault * c.split → 9 ≤ shock → shock ≤ c.shock → c.body ≤ body
      → case_verdict c ≡ Safe → case_verdict (eased fault split shock body c) ≡ Safe
  unfolding case_verdict
  eased_safe fault split shock body h z t w e =
      safe_eases (tolerable_touch_rises b fault split shock body z t w) (tolerable_step_rises b fault split shock body z t w)
      (mesh_below b fault split shock body h)
      (step_below b fault split shock body h) e

  -- the theorem, for a shock time in its range
  pub no_worse_safe : {d : Case} → 9 ≤ d.shock → NoWorse c d → case_verdict c ≡ Safe → case_verdict d ≡ Safe
  no_worse_safe {d} z n e =
      ap case_verdict n.all_else
      ∙ same_verdict d.station d.season (eased d.fault d.split d.shock d.body c)
      ∙ eased_safe d.fault d.split d.shock d.body n.enters z n.shorter n.heavier e
