-- §4.3: the ends of the decrement factor in billionths, by whole-number intervals. These name the free part of the answers: callers use
-- only their laws.
use Rattle.std.specs.Prelude.{◌+◌, ◌*◌, ◌^◌, pos, nat_abs}
use Rattle.interval.specs.declared.Interval.{Interval}
use Rattle.interval.specs.Operations.{natural, point, sum_of, difference_of, outward_of, scaled_of, product_of, quotient_of}
use Rattle.enclosure.specs.{SquareRoot.{square_root}, Pi.{π_ends}}
use Rattle.exponential.specs.Ends.{exp_pair}
use Rattle.case.specs.declared.Case.{Case}

module _ (c : Case) where
  -- 2tf/Ta = 4π·hz·tf/xr in 10^−9
  unfoldable pub exponent_ends : Interval
  exponent_ends = outward_of (scaled_of π_ends (4 * c.hz * c.clear)) (1000 * c.xr)

  -- Ta/tf, 2 over that, in 10^−9
  unfoldable pub ratio_ends : Interval
  ratio_ends = quotient_of (point (pos 2)) exponent_ends (10 ^ 18)

  -- 1 − e^(−2tf/Ta) in 10^−9
  unfoldable pub rest_ends : Interval
  rest_ends = difference_of (point (pos (10 ^ 9))) (exp_pair exponent_ends)

  -- 1 + (Ta/tf)(1 − e^(−2tf/Ta)) in 10^−9
  unfoldable pub square_ends : Interval
  square_ends = sum_of (point (pos (10 ^ 9))) (product_of rest_ends ratio_ends (10 ^ 9))

  -- Df in 10^−9
  unfoldable pub df_ends : Interval
  df_ends = natural (square_root (nat_abs square_ends.lower * 10 ^ 9)) (square_root (nat_abs square_ends.upper * 10 ^ 9) + 1)
