-- `first_guess` shifts by half the length of x in bits, rounded up.
use native.Mathlib.Omega.{arith}
use lib.Count.{leading_length}
use Rattle.interval.proofs.{FirstGuess.{step_fits, step_not_below}}
use Rattle.interval.proofs.root.first_guess.Goals as goal

pub overflow_add-result : goal.overflow_add-result
overflow_add-result c =
    let n = leading_length 64 c.args.x c.ranges.x.fits in
    step_fits _ (omega arith) c.args.x n.0 n.2 (omega (arith, n.1))

pub returns : goal.returns
returns c =
    let n = leading_length 64 c.args.x c.ranges.x.fits in
    step_not_below _ (omega arith) c.args.x n.0 n.2 (omega (arith, n.1))
