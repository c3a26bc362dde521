-- §4.6: the ends of LM and of the mesh voltage, by whole-number intervals. These name the free part of the answers: callers use only their
-- laws.
use Rattle.std.specs.Prelude.{◌+◌, ◌*◌, ◌^◌, cond}
use lib.{Dec.{eqb}, IntN.{pos}}
use Rattle.interval.specs.{declared.Interval.{Interval}, Operations.{point, sum_of, product_of, quotient_of}}
use Rattle.enclosure.specs.SquareRoot.{root_pair}
use Rattle.case.specs.declared.Case.{Case}
use Rattle.drive.specs.Ends.{drive_ends}
use Rattle.lengths.specs.Lengths.{side_x, side_y, lc_mm, lr_mm, lt_mm}
use Rattle.mesh.specs.Factor.{km_ends}

module _ (c : Case) where
  -- √(Lx²+Ly²) in 10^−6 m
  unfoldable pub diagonal_ends : Interval
  diagonal_ends = root_pair ((side_x c * side_x c + side_y c * side_y c) * 10 ^ 6)

  -- 1.55 + 1.22·Lr over the diagonal, in 10^−9
  unfoldable pub rod_weight : Interval
  rod_weight = sum_of (point (pos 1550000000)) (quotient_of (point (pos (122 * c.rodlen))) diagonal_ends 10000000000)

  -- LM with rods along the perimeter, in 10^−6 m
  unfoldable pub weighed_length : Interval
  weighed_length =
      sum_of (point (pos (1000 * lc_mm c))) (product_of rod_weight (point (pos (lr_mm c))) 1000000)

  -- LM in 10^−6 m
  unfoldable pub lm_ends : Interval
  lm_ends = cond (eqb c.place 1) weighed_length (point (pos (1000 * lt_mm c)))

  -- ρ·Ki·IG/LM in mV
  unfoldable pub driven_ends : Interval
  driven_ends = quotient_of (drive_ends c) lm_ends 1

  -- the mesh voltage in mV
  unfoldable pub mesh_ends : Interval
  mesh_ends = product_of driven_ends (km_ends c) 10000000
