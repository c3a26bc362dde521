-- `Interval::scaled` multiplies both ends by a natural.
use Prim.Native.Nat.{◌<◌, ◌^◌}
use native.Mathlib.Nat.{lt_of_le_of_lt}
use borrow.Author.Rules.{rules}
use lib.IntN.{pos, nat_abs, ◌*ℤ◌}
use mir.{Syntax.{w64}, Val.{SFits}}
use Rattle.whole.proofs.Bits.{result_fits, result_is}
use Rattle.interval.specs.Operations.{size, scaled_of}
use Rattle.interval.proofs.{Sizes.{size_scaled, lower_below, upper_below}, Held.{Held}}
use Rattle.interval.proofs.Interval.scaled.Goals as goal
use Rattle.interval.proofs.Interval.scaled.Goals.{Start}

module _ (s : Start) where
  held : Held s.args.self
  held = search rules

  factor : SFits w64 (pos s.args.k)
  factor = record { sfits = s.requires.0 }

  small : size (scaled_of s.args.self s.args.k) < 2 ^ 63
  small = lt_of_le_of_lt (size_scaled s.args.self s.args.k) s.requires.1

  lower_small : nat_abs (s.args.self.lower *ℤ pos s.args.k) < 2 ^ 63
  unfolding scaled_of
  lower_small = lower_below _ small

  upper_small : nat_abs (s.args.self.upper *ℤ pos s.args.k) < 2 ^ 63
  unfolding scaled_of
  upper_small = upper_below _ small

pub overflow_mul-result : goal.overflow_mul-result
overflow_mul-result c =
    result_fits ◌*ℤ◌ (held (goal.at.overflow_mul-result c).Start).0 (factor (goal.at.overflow_mul-result c).Start) (lower_small (goal.at.overflow_mul-result c).Start)

pub overflow_mul-result-2 : goal.overflow_mul-result-2
overflow_mul-result-2 c =
    result_fits ◌*ℤ◌ (held (goal.at.overflow_mul-result-2 c).Start).1 (factor (goal.at.overflow_mul-result-2 c).Start) (upper_small (goal.at.overflow_mul-result-2 c).Start)

pub returns : goal.returns
unfolding scaled_of
returns c =
    cc (result_is ◌*ℤ◌ (held (goal.at.returns c).Start).0 (factor (goal.at.returns c).Start) (lower_small (goal.at.returns c).Start), result_is ◌*ℤ◌ (held (goal.at.returns c).Start).1 (factor (goal.at.returns c).Start) (upper_small (goal.at.returns c).Start))
