-- `Interval::quotient` takes the least and the greatest of the quotients by the ends of the divisor.
use Prim.Native.Nat.{◌<◌, ◌^◌}
use native.Mathlib.Nat.{lt_of_le_of_lt}
use borrow.Author.Rules.{rules}
use mir.Facts.{to_z-of_z}
use Rattle.whole.proofs.{Bits.{back}}
use Rattle.interval.specs.Operations.{size, outward_of, hull_of, quotient_of}
use Rattle.interval.proofs.{Sizes.{size_scaled, upper_below}, Held.{Held}}
use Rattle.interval.proofs.Interval.quotient.Goals as goal
use Rattle.interval.proofs.Interval.quotient.Goals.{After-scaled-top, Start}

held : (s : Start) → Held s.args.divisor
held s = search rules

-- the scaled interval is as small as was required
small : (c : After-scaled-top) → size c.scaled-top.result < 2 ^ 63
small c =
    rw c.scaled-top.ensures (lt_of_le_of_lt (size_scaled c.args.self c.args.scale) c.requires.scale_bound.1)

held_scaled : (c : After-scaled-top) → Held c.scaled-top.result
held_scaled c = search rules

pub most_ceil-requires-clause-a_bound : goal.most_ceil-requires-clause-a_bound
most_ceil-requires-clause-a_bound c =
    rw (to_z-of_z (held_scaled (goal.at.most_ceil-requires-clause-a_bound c).After-scaled-top).1) (upper_below _ (small (goal.at.most_ceil-requires-clause-a_bound c).After-scaled-top))

pub returns : goal.returns
unfolding quotient_of hull_of outward_of
returns c =
    cc (
      to_z-of_z (held (goal.at.returns c).Start).0,
      to_z-of_z (held (goal.at.returns c).Start).1,
      to_z-of_z (held_scaled (goal.at.returns c).After-scaled-top).0,
      to_z-of_z (held_scaled (goal.at.returns c).After-scaled-top).1,
      back c.least_floor.result c.least_floor.type_inv,
      back c.most_ceil.result c.most_ceil.type_inv,
    )
