-- `Interval::sum` adds the ends.
use Prim.Native.Nat.{◌<◌, ◌^◌}
use native.Mathlib.Nat.{lt_of_le_of_lt}
use borrow.Author.Rules.{rules}
use lib.IntN.{nat_abs, ◌+ℤ◌}
use Rattle.whole.proofs.Bits.{result_fits, result_is}
use Rattle.interval.specs.Operations.{size, sum_of}
use Rattle.interval.proofs.{Sizes.{size_sum, lower_below, upper_below}, Held.{Held}}
use Rattle.interval.proofs.Interval.sum.Goals as goal
use Rattle.interval.proofs.Interval.sum.Goals.{Start}

module _ (s : Start) where
  held : Held s.args.self × Held s.args.other
  held = search rules

  small : size (sum_of s.args.self s.args.other) < 2 ^ 63
  small = lt_of_le_of_lt (size_sum s.args.self s.args.other) s.requires

  lower_small : nat_abs (s.args.self.lower +ℤ s.args.other.lower) < 2 ^ 63
  unfolding sum_of
  lower_small = lower_below _ small

  upper_small : nat_abs (s.args.self.upper +ℤ s.args.other.upper) < 2 ^ 63
  unfolding sum_of
  upper_small = upper_below _ small

pub overflow_add-result : goal.overflow_add-result
overflow_add-result c =
    result_fits ◌+ℤ◌ (held (goal.at.overflow_add-result c).Start).0.0 (held (goal.at.overflow_add-result c).Start).1.0 (lower_small (goal.at.overflow_add-result c).Start)

pub overflow_add-result-2 : goal.overflow_add-result-2
overflow_add-result-2 c =
    result_fits ◌+ℤ◌ (held (goal.at.overflow_add-result-2 c).Start).0.1 (held (goal.at.overflow_add-result-2 c).Start).1.1 (upper_small (goal.at.overflow_add-result-2 c).Start)

pub returns : goal.returns
unfolding sum_of
returns c =
    cc (result_is ◌+ℤ◌ (held (goal.at.returns c).Start).0.0 (held (goal.at.returns c).Start).1.0 (lower_small (goal.at.returns c).Start), result_is ◌+ℤ◌ (held (goal.at.returns c).Start).0.1 (held (goal.at.returns c).Start).1.1 (upper_small (goal.at.returns c).Start))
