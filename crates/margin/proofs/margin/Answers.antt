-- `margin` rounds the share up and takes the whole from it.
use Prim.Native.Nat.{◌*◌, ◌≤◌, ◌<◌, ◌^◌}
use mathlib.Core.Path.{◌≡◌, ap, ◌∙◌}
use native.Mathlib.Omega.{arith}
use lib.IntN.{pos, nat_abs, ◌-ℤ◌}
use mir.{Syntax.{w64}, Val.{SFits}, Facts.{to_z-of_z, to_z_pos}}
use Rattle.whole.{specs.Whole.{ceil_div}, proofs.{Bits.{read, natural_cast, small_fits}, Signed.{size_difference}}}
use Rattle.margin.specs.Margin.{whole, margin}
use Rattle.margin.proofs.{Voltages.{Voltages, voltages, margin_fits, share_small}}
use Rattle.margin.proofs.margin.Goals as goal
use Rattle.margin.proofs.margin.Goals.{After-ceil, Start}

module _ (s : Start) where
  both : Voltages s.args.voltage s.args.tolerable
  both = voltages s.args.voltage s.args.tolerable s.requires

  voltage_is : read s.args.voltage ≡ pos both.v.n
  voltage_is = to_z-of_z s.ranges.voltage ∙ both.v.is

  tolerable_is : read s.args.tolerable ≡ pos both.t.n
  tolerable_is = to_z-of_z s.ranges.tolerable ∙ both.t.is

pub overflow_cast-voltage : goal.overflow_cast-voltage
overflow_cast-voltage c = natural_cast (both (goal.at.overflow_cast-voltage c).Start).v.n c.ranges.voltage (voltage_is (goal.at.overflow_cast-voltage c).Start)

pub overflow_cast-tolerable : goal.overflow_cast-tolerable
overflow_cast-tolerable c = natural_cast (both (goal.at.overflow_cast-tolerable c).Start).t.n c.ranges.tolerable (tolerable_is (goal.at.overflow_cast-tolerable c).Start)

pub ceil-requires : goal.ceil-requires
ceil-requires c = rw (voltage_is (goal.at.ceil-requires c).Start, tolerable_is (goal.at.ceil-requires c).Start) (margin_fits (both (goal.at.ceil-requires c).Start).v.to (both (goal.at.ceil-requires c).Start).t.from (both (goal.at.ceil-requires c).Start).t.to)

module _ (c : After-ceil) where
  share_is : c.ceil.result ≡ ceil_div (whole * (both (goal.at.After-ceil c).Start).v.n) (both (goal.at.After-ceil c).Start).t.n
  share_is = rw (voltage_is (goal.at.After-ceil c).Start, tolerable_is (goal.at.After-ceil c).Start) at c.ceil.ensures

  small : c.ceil.result ≤ 10 ^ 18
  small = rw share_is (share_small (both (goal.at.After-ceil c).Start).v.to (both (goal.at.After-ceil c).Start).t.from)

  fits : SFits w64 (pos c.ceil.result)
  fits = record { sfits = omega (arith, small) }

  less : nat_abs (pos c.ceil.result -ℤ pos whole) < 2 ^ 63
  less = omega (arith, size_difference (pos c.ceil.result) (pos whole), small)

pub overflow_cast-result : goal.overflow_cast-result
overflow_cast-result c = fits (goal.at.overflow_cast-result c).After-ceil

pub overflow_sub-result : goal.overflow_sub-result
overflow_sub-result c = rw (to_z_pos w64 (fits (goal.at.overflow_sub-result c).After-ceil).sfits) (small_fits (less (goal.at.overflow_sub-result c).After-ceil))

pub returns : goal.returns
unfolding margin
returns c =
    rw (to_z_pos w64 (fits (goal.at.returns c).After-ceil).sfits) (to_z-of_z (small_fits (less (goal.at.returns c).After-ceil)))
    ∙ ap (λ n. pos n -ℤ pos whole) (rw (to_z-of_z c.ranges.voltage, to_z-of_z c.ranges.tolerable) at c.ceil.ensures)
