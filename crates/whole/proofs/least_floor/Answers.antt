-- `least_floor` divides once, by the divisor that the sign names.
use mathlib.Core.Path.{sym, ◌∙◌}
use mir.Facts.{to_z-of_z}
use Rattle.whole.proofs.{Bits.{back, below_zero, not_below_zero}, Divisors.{least_from_zero, least_below_zero}}
use Rattle.whole.proofs.least_floor.Goals as goal

pub returns-then-a-lt0 : goal.returns-then-a-lt0
returns-then-a-lt0 c =
    let e = c.floor_div.ensures in
    back c.floor_div.result c.floor_div.type_inv ∙ (rw (to_z-of_z c.ranges.a) at e)
    ∙ (rw (below_zero c.args.a c.ranges.a c.if-a-lt0.true) (sym (least_below_zero _ c.requires.0 c.requires.1)))

pub returns-else-a-lt0 : goal.returns-else-a-lt0
returns-else-a-lt0 c =
    let e = c.floor_div-else-a-lt0.ensures in
    back c.floor_div-else-a-lt0.result c.floor_div-else-a-lt0.type_inv ∙ (rw (to_z-of_z c.ranges.a) at e)
    ∙ (rw (not_below_zero c.args.a c.ranges.a c.if-a-lt0.false) (sym (least_from_zero _ c.requires.0 c.requires.1)))
