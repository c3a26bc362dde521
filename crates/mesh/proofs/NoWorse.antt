-- No more of the fault current enters the grid, all else equal but shock time and body: Km and LM stay, and the mesh voltage's
-- ends fall or stay.
use Prim.Native.Nat.{ℕ, ◌*◌, ◌≤◌}
use mathlib.Core.Path.{◌≡◌, refl}
use native.Mathlib.Omega.{arith}
use lib.Dec.{lit<}
use Rattle.interval.proofs.Below.{Below, below_times, below_quotient}
use Rattle.case.specs.{declared.Case.{Case}, Bounds.{Bounds}, Eased.{eased}}
use Rattle.lengths.specs.Lengths.{lc_mm, lr_mm, lt_mm}
use Rattle.drive.proofs.NoWorse.{drive_below}
use Rattle.mesh.specs.Factor.{argument_top, argument_bottom, argument_log, kh_ends, kii_ends, inner_term, km_ends}
use Rattle.mesh.specs.Ends.{diagonal_ends, rod_weight, weighed_length, lm_ends, driven_ends, mesh_ends}
use Rattle.mesh.proofs.{LengthSpans.{lm_span, lm_low}, FactorSpans.{factor_span}}

module _ {c : Case} (b : Bounds c) (fault split shock body : ℕ) (enters : fault * split ≤ c.fault * c.split) where
  same_length : lm_ends (eased fault split shock body c) ≡ lm_ends c
  unfolding lm_ends weighed_length rod_weight diagonal_ends lt_mm lc_mm lr_mm
  same_length = refl

  same_factor : km_ends (eased fault split shock body c) ≡ km_ends c
  unfolding km_ends inner_term kii_ends kh_ends argument_log argument_top argument_bottom
  same_factor = refl

  pub mesh_below : Below (mesh_ends (eased fault split shock body c)) (mesh_ends c)
  unfolding mesh_ends driven_ends
  mesh_below =
      let driven = below_quotient (drive_below b fault split shock body enters) 1 (omega (arith, lm_low b)) (lm_span b) in
      rw (same_length, same_factor) (below_times driven (factor_span b) (lit< tt))
