-- No more of the fault current enters the grid, all else equal but shock time and body: Ks and LS stay, and the step voltage's
-- ends fall or stay.
use Prim.Native.Nat.{ℕ, ◌*◌, ◌≤◌}
use mathlib.Core.Path.{◌≡◌, refl}
use lib.Dec.{lit≤, lit<}
use Rattle.interval.proofs.Below.{Below, below_times, below_quotient}
use Rattle.case.specs.{declared.Case.{Case}, Bounds.{Bounds}, Eased.{eased}}
use Rattle.lengths.specs.Lengths.{lc_mm, lr_mm}
use Rattle.drive.proofs.NoWorse.{drive_below}
use Rattle.step.specs.Ends.{power_of_two, share_ends, reach, spacing_sum, ks_ends, ls_twentieths, driven_ends, step_voltage_ends}
use Rattle.step.proofs.{FactorSpans.{factor_span}, Spans.{length_span}}

module _ {c : Case} (b : Bounds c) (fault split shock body : ℕ) (enters : fault * split ≤ c.fault * c.split) where
  same_length : ls_twentieths (eased fault split shock body c) ≡ ls_twentieths c
  unfolding ls_twentieths lc_mm lr_mm
  same_length = refl

  same_factor : ks_ends (eased fault split shock body c) ≡ ks_ends c
  unfolding ks_ends spacing_sum share_ends power_of_two reach
  same_factor = refl

  pub step_below : Below (step_voltage_ends (eased fault split shock body c)) (step_voltage_ends c)
  unfolding step_voltage_ends driven_ends
  step_below =
      let driven = below_quotient (drive_below b fault split shock body enters) 1 (lit≤ tt) (length_span b) in
      rw (same_length, same_factor) (below_times driven (factor_span b) (lit< tt))
