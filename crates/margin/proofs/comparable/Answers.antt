-- `comparable` tests the voltage, then the tolerable one.
use mathlib.Core.Path.{◌≡◌}
use lib.IntN.{pos}
use mir.Facts.{to_z-of_z}
use Rattle.margin.specs.Margin.{in_range, comparable}
use Rattle.margin.proofs.comparable.Goals as goal

pub returns : goal.returns
unfolding comparable
returns c =
    let first : c.in_range.result ≡ in_range (pos 0) c.args.voltage =
    rw (to_z-of_z c.ranges.voltage) at c.in_range.ensures in
    let second : c.in_range-2.result ≡ in_range (pos 1) c.args.tolerable =
    rw (to_z-of_z c.ranges.tolerable) at c.in_range-2.ensures in
    rw (first, second)
