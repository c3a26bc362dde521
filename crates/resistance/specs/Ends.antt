-- §4.8: the ends of the resistance and of the potential rise, by whole-number intervals. These name the free part of the answers: callers
-- use only their laws.
use Rattle.std.specs.Prelude.{◌*◌, ◌^◌, cond, pos}
use Rattle.interval.specs.{declared.Interval.{Interval}, Operations.{natural, point, sum_of, outward_of, scaled_of, product_of, quotient_of}}
use Rattle.enclosure.specs.SquareRoot.{root_pair}
use Rattle.case.specs.declared.Case.{Case}
use Rattle.formulas.specs.Lengths.{equal_counts}
use Rattle.current.specs.Ends.{ig_ends}
use Rattle.lengths.specs.Lengths.{side_x, side_y, lt_mm}

-- √20 in 10^−9
unfoldable pub root_twenty : Interval
root_twenty = natural 4472135954 4472135955

module _ (c : Case) where
  -- s in micrometres: the side of a square, else the root of the area
  unfoldable pub side_ends : Interval
  side_ends = cond (equal_counts c) (point (pos (1000 * side_x c))) (root_pair (side_x c * side_y c * 10 ^ 6))

  -- 1 + h·√20/s in 10^−9
  unfoldable pub depth_ends : Interval
  depth_ends = sum_of (point (pos (10 ^ 9))) (quotient_of (scaled_of root_twenty c.depth) side_ends 1000)

  -- 1 + 1/(1 + h·√20/s) in 10^−9
  unfoldable pub shape_ends : Interval
  shape_ends = sum_of (point (pos (10 ^ 9))) (quotient_of (point (pos (10 ^ 9))) depth_ends (10 ^ 9))

  -- √20·s in 10^−9 m
  unfoldable pub width_ends : Interval
  width_ends = product_of side_ends root_twenty (10 ^ 6)

  -- 1/LT + (1 + 1/(1 + h·√20/s))/(√20·s), in 10^−9 per metre
  unfoldable pub per_soil_ends : Interval
  per_soil_ends = sum_of (quotient_of (point (pos 1)) (point (pos (lt_mm c))) (10 ^ 12)) (quotient_of shape_ends width_ends (10 ^ 9))

  -- resistance in micro-ohms
  unfoldable pub resistance_ends : Interval
  resistance_ends = outward_of (scaled_of per_soil_ends c.soil) 1000

  -- IG times resistance, in mV
  unfoldable pub rise_ends : Interval
  rise_ends = product_of resistance_ends (ig_ends c) (10 ^ 9)
