-- No more of the fault current enters the grid, all else equal but shock time and body: the ends of ρ·Ki·IG fall or stay.
use Prim.Native.Nat.{ℕ, ◌*◌, ◌≤◌}
use lib.Dec.{lit<}
use Rattle.interval.proofs.Below.{Below, below_scaled, below_product}
use Rattle.case.specs.{declared.Case.{Case}, Bounds.{Bounds}, Eased.{eased}}
use Rattle.effective_number.proofs.{NumberSpans.{Ki-span}, NumberEnclosed.{counts}}
use Rattle.current.proofs.NoWorse.{current_below}
use Rattle.drive.specs.Ends.{soil_current, drive_ends}

module _ {c : Case} (b : Bounds c) (fault split shock body : ℕ) (enters : fault * split ≤ c.fault * c.split) where
  pub drive_below : Below (drive_ends (eased fault split shock body c)) (drive_ends c)
  unfolding drive_ends soil_current
  drive_below = below_product (below_scaled (current_below b fault split shock body enters) c.soil) (Ki-span (counts b)) (lit< tt)
