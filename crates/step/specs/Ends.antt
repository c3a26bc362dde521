-- §4.7: the ends of the step voltage, by whole-number intervals. These name the free part of the answers: callers use only their laws.
use Rattle.std.specs.Prelude.{ℕ, ◌+◌, ◌-◌, ◌*◌, ◌^◌, cond, pos}
use Rattle.interval.specs.{declared.Interval.{Interval}, Operations.{point, sum_of, difference_of, product_of, quotient_of}}
use Rattle.enclosure.specs.Pi.{π_ends}
use Rattle.case.specs.declared.Case.{Case}
use Rattle.formulas.specs.Lengths.{equal_counts}
use Rattle.lengths.specs.Lengths.{lc_mm, lr_mm}
use Rattle.conductors.specs.Weights.{half_power_ends}
use Rattle.drive.specs.Ends.{number_of, drive_ends}

-- a / d per millimetre, in 10^−9 per metre
unfoldable pub per_metre : ℕ → ℕ → Interval
per_metre a d = quotient_of (point (pos a)) (point (pos d)) (10 ^ 12)

module _ (c : Case) where
  -- 2^(n−2) of a square
  unfoldable pub power_of_two : ℕ
  power_of_two = 2 ^ (c.across - 2)

  -- (1 − 0.5^(n−2))/D in 10^−9 per metre: of a square by the power of two, else by the half-power
  unfoldable pub share_ends : Interval
  share_ends =
      cond (equal_counts c) (per_metre (power_of_two - 1) (power_of_two * c.space))
      (quotient_of (difference_of (point (pos (10 ^ 9))) (half_power_ends (number_of c))) (point (pos c.space)) 1000)

  -- D + h, in millimetres
  unfoldable pub reach : ℕ
  reach = c.space + c.depth

  -- 1/(2h) + 1/(D+h) + (1 − 0.5^(n−2))/D, in 10^−9 per metre
  unfoldable pub spacing_sum : Interval
  spacing_sum = sum_of (sum_of (per_metre 1 (2 * c.depth)) (per_metre 1 reach)) share_ends

  -- Ks, in 10^−7 per metre
  unfoldable pub ks_ends : Interval
  ks_ends = quotient_of spacing_sum π_ends (10 ^ 7)

  -- LS, in twentieths of a millimetre
  unfoldable pub ls_twentieths : ℕ
  ls_twentieths = 15 * lc_mm c + 17 * lr_mm c

  -- ρ·Ki·IG/LS, in mV
  unfoldable pub driven_ends : Interval
  driven_ends = quotient_of (drive_ends c) (point (pos (50 * ls_twentieths))) 1

  -- step voltage, in mV
  unfoldable pub step_voltage_ends : Interval
  step_voltage_ends = product_of driven_ends ks_ends (10 ^ 7)
