-- `isqrt` falls to the root: no guess is below it, and a guess whose square is not above x is the root.
use native.Mathlib.Omega.{arith}
use Rattle.interval.proofs.{Newton.{guess_positive, newton_above, newton_below}}
use Rattle.interval.proofs.root.isqrt.Goals as goal

pub loop-r-preserved : goal.loop-r-preserved
loop-r-preserved c =
    let h = c.loop-r-test.true in
    record { high = newton_above _ _ (guess_positive _ _ h); small = omega (arith, newton_below _ _ h, c.loop-r.invariant.small) }
