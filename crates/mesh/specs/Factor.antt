-- §4.6: the ends of Km and of its parts, by whole-number intervals. These name the free part of the answers: callers use only their laws.
use Rattle.std.specs.Prelude.{ℕ, ◌+◌, ◌*◌, ◌^◌, Bool, cond}
use lib.{Dec.{eqb}, IntN.{pos}}
use Rattle.interval.specs.{declared.Interval.{Interval}, Operations.{point, sum_of, scaled_of, product_of, quotient_of}}
use Rattle.enclosure.specs.{SquareRoot.{root_pair}, Pi.{π_ends}}
use Rattle.logarithm.specs.Ends.{ln_ends}
use Rattle.case.specs.declared.Case.{Case}
use Rattle.conductors.specs.Weights.{spread_ends, inner_ends}
use Rattle.drive.specs.Ends.{number_of}

module _ (c : Case) where
  -- G as a fraction of two whole numbers: 10(D+2h)(D²+4h²) over 16hdD, d in tenths of mm
  unfoldable pub argument_top : ℕ
  argument_top = 10 * (c.space + 2 * c.depth) * (c.space * c.space + 4 * (c.depth * c.depth))

  unfoldable pub argument_bottom : ℕ
  argument_bottom = 16 * c.depth * c.dia * c.space

  -- ln G in 10^−9
  unfoldable pub argument_log : Interval
  argument_log = ln_ends argument_top argument_bottom

  -- Kh in 10^−9
  unfoldable pub kh_ends : Interval
  kh_ends = root_pair ((1000 + c.depth) * 10 ^ 15)

  -- where Kii is 1
  abbrev pub perimeter_rods : Bool
  perimeter_rods = eqb c.place 1

  -- Kii in 10^−9
  unfoldable pub kii_ends : Interval
  kii_ends = cond perimeter_rods (point (pos 1000000000)) (inner_ends c.across c.along (number_of c))

  -- (Kii/Kh)·ln(8/(π(2n−1))) in 10^−9
  unfoldable pub inner_term : Interval
  inner_term = product_of (quotient_of kii_ends kh_ends 1000000000) (spread_ends (number_of c)) 1000000000

  -- Km in 10^−7
  unfoldable pub km_ends : Interval
  km_ends = quotient_of (sum_of argument_log inner_term) (scaled_of π_ends 2) 10000000
