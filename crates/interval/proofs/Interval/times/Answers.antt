-- `Interval::times` takes the lesser and the greater of the two products.
use Prim.Native.Nat.{◌≤◌, ◌<◌, ◌^◌}
use native.Mathlib.Nat.{lt_of_le_of_lt, le_refl}
use borrow.Author.Rules.{rules}
use lib.IntN.{ℤ, nat_abs, ◌*ℤ◌}
use Rattle.whole.proofs.{Bits.{back, result_fits, result_is}, Choice.{min_is, max_is}}
use Rattle.interval.specs.Operations.{size, times_of}
use Rattle.interval.proofs.{Sizes.{size_lower, size_upper, size_factors}, Held.{Held}}
use Rattle.interval.proofs.Interval.times.Goals as goal
use Rattle.interval.proofs.Interval.times.Goals.{Start}

module _ (s : Start) where
  held : Held s.args.self
  held = search rules

  small : (y : ℤ) → nat_abs y ≤ size s.args.self → nat_abs (s.args.z *ℤ y) < 2 ^ 63
  small y h = lt_of_le_of_lt (size_factors s.args.z y (le_refl _) h) s.requires

  lower_small : nat_abs (s.args.z *ℤ s.args.self.lower) < 2 ^ 63
  lower_small = small s.args.self.lower (size_lower s.args.self)

  upper_small : nat_abs (s.args.z *ℤ s.args.self.upper) < 2 ^ 63
  upper_small = small s.args.self.upper (size_upper s.args.self)

pub overflow_mul-a : goal.overflow_mul-a
overflow_mul-a c = result_fits ◌*ℤ◌ c.ranges.z (held (goal.at.overflow_mul-a c).Start).0 (lower_small (goal.at.overflow_mul-a c).Start)

pub overflow_mul-b : goal.overflow_mul-b
overflow_mul-b c = result_fits ◌*ℤ◌ c.ranges.z (held (goal.at.overflow_mul-b c).Start).1 (upper_small (goal.at.overflow_mul-b c).Start)

pub returns : goal.returns
unfolding times_of
returns c =
    cc (
      result_is ◌*ℤ◌ c.ranges.z (held (goal.at.returns c).Start).0 (lower_small (goal.at.returns c).Start),
      result_is ◌*ℤ◌ c.ranges.z (held (goal.at.returns c).Start).1 (upper_small (goal.at.returns c).Start),
      back c.min.result c.min.type_inv,
      back c.max.result c.max.type_inv,
      min_is _ _,
      max_is _ _,
    )
