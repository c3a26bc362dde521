-- `or_nought` casts what is not below 0.
use mathlib.Core.Path.{◌∙◌}
use native.Mathlib.Omega.{arith}
use mir.Facts.{to_z-of_z}
use Rattle.whole.proofs.Bits.{not_below_zero}
use Rattle.headroom.proofs.guess.or_nought.Goals as goal

pub overflow_cast-result : goal.overflow_cast-result
overflow_cast-result c =
    rw (to_z-of_z c.ranges.end ∙ not_below_zero c.args.end c.ranges.end c.if-end-lt0.false)
    (tt, record { fits = omega (arith, c.ranges.end.sfits) })
