-- No more of the fault current enters the grid, all else equal but shock time and body: the factor stays, and the grid current's ends
-- fall or stay.
use Prim.Native.Nat.{ℕ, ◌*◌, ◌≤◌}
use mathlib.Core.Path.{◌≡◌, refl}
use lib.Dec.{lit<}
use Rattle.interval.proofs.Below.{Below, below_more, below_outward}
use Rattle.case.specs.{declared.Case.{Case}, Bounds.{Bounds}, Eased.{eased}}
use Rattle.decrement.{specs.Ends.{exponent_ends, ratio_ends, rest_ends, square_ends, df_ends}, proofs.Widths.{factor_span}}
use Rattle.current.specs.Ends.{ig_ends}

module _ {c : Case} (b : Bounds c) (fault split shock body : ℕ) (enters : fault * split ≤ c.fault * c.split) where
  same_factor : df_ends (eased fault split shock body c) ≡ df_ends c
  unfolding df_ends square_ends rest_ends ratio_ends exponent_ends
  same_factor = refl

  pub current_below : Below (ig_ends (eased fault split shock body c)) (ig_ends c)
  unfolding ig_ends
  current_below = rw same_factor (below_outward (below_more (factor_span b) enters) (lit< tt))
