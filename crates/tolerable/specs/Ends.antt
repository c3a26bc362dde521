-- §4.5: the ends of the layer effect and of the tolerable voltages, by whole-number intervals. These name the free part of the answers:
-- callers use only their laws.
use Rattle.std.specs.Prelude.{ℕ, ◌+◌, ◌*◌, ◌^◌, cond}
use lib.{Dec.{eqb}, IntN.{pos}}
use Rattle.interval.specs.{declared.Interval.{Interval}, Operations.{point, sum_of, difference_of, outward_of, scaled_of, quotient_of}}
use Rattle.enclosure.specs.SquareRoot.{root_pair}
use Rattle.case.specs.declared.Case.{Case}
use Rattle.tolerable.specs.declared.TouchAndStep.{TouchAndStep}

module _ (c : Case) where
  -- Q with a layer, in 10^−3 ohm metres
  unfoldable pub layered : Interval
  layered =
      difference_of (point (pos (1000 * c.layer)))
      (outward_of (difference_of (point (pos (90000 * c.layer))) (point (pos (90000 * c.soil)))) (2 * c.thick + 90))

  -- Q, in 10^−3 ohm metres
  unfoldable pub layer_ends : Interval
  layer_ends = cond (eqb c.layer 0) (point (pos (1000 * c.soil))) layered

  -- k in thousandths
  unfoldable pub body_factor : ℕ
  body_factor = cond (eqb c.body 50) 116 157

  -- √t in 10^−8
  unfoldable pub time_root : Interval
  time_root = root_pair (c.shock * 10 ^ 13)

  -- (1000 + weight/2 · Q) · k in units of 1/2,000,000
  unfoldable pub top_ends : ℕ → Interval
  top_ends weight = scaled_of (sum_of (point (pos 2000000)) (scaled_of layer_ends weight)) body_factor

  -- that over √t, in mV
  unfoldable pub tolerable_ends : ℕ → Interval
  tolerable_ends weight = quotient_of (top_ends weight) time_root 50000

  unfoldable pub touch_ends : Interval
  touch_ends = tolerable_ends 3

  unfoldable pub step_ends : Interval
  step_ends = tolerable_ends 12

  unfoldable pub touch_and_step : TouchAndStep
  touch_and_step = record { touch = touch_ends; step = step_ends }
