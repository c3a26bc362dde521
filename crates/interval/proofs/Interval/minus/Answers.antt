-- `minus` turns the ends round: a number whose size is below 2^63 has a negative that fits.
use Prim.Native.Nat.{◌<◌, ◌^◌}
use native.Mathlib.Omega.{arith}
use lib.IntN.{nat_abs}
use Rattle.whole.proofs.Bits.{small_fits, negated_fits, negated_is}
use Rattle.interval.specs.Operations.{size, minus_of}
use Rattle.interval.proofs.Interval.minus.Goals as goal

pub overflow_sub-result : goal.overflow_sub-result
unfolding size
overflow_sub-result c =
    let h : nat_abs c.args.self.upper < 2 ^ 63 = omega arith in
    negated_fits {z = c.args.self.upper} (small_fits h) h

pub overflow_sub-result-2 : goal.overflow_sub-result-2
unfolding size
overflow_sub-result-2 c =
    let h : nat_abs c.args.self.lower < 2 ^ 63 = omega arith in
    negated_fits {z = c.args.self.lower} (small_fits h) h

pub returns : goal.returns
unfolding size minus_of
returns c =
    let h : nat_abs c.args.self.upper < 2 ^ 63 = omega arith in
    let k : nat_abs c.args.self.lower < 2 ^ 63 = omega arith in
    simp (negated_is {z = c.args.self.upper} (small_fits h) h, negated_is {z = c.args.self.lower} (small_fits k) k)
