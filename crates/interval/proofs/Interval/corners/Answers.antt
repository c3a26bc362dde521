-- `Interval::corners` multiplies the other pair by each end.
use native.Mathlib.Nat.{lt_of_le_of_lt, mul-le-mul_right}
use borrow.Author.Rules.{rules}
use mir.Facts.{to_z-of_z}
use Rattle.interval.specs.Operations.{size}
use Rattle.interval.proofs.{Sizes.{size_lower, size_upper, corners_hull}, Held.{Held}}
use Rattle.interval.proofs.Interval.corners.Goals as goal
use Rattle.interval.proofs.Interval.corners.Goals.{Start}

held : (s : Start) → Held s.args.self
held s = search rules

pub times-requires : goal.times-requires
times-requires c =
    rw (to_z-of_z (held (goal.at.times-requires c).Start).0) (lt_of_le_of_lt (mul-le-mul_right (size c.args.other) (size_lower c.args.self)) c.requires)

pub times-requires-2 : goal.times-requires-2
times-requires-2 c =
    rw (to_z-of_z (held (goal.at.times-requires-2 c).Start).1) (lt_of_le_of_lt (mul-le-mul_right (size c.args.other) (size_upper c.args.self)) c.requires)

pub returns : goal.returns
returns c =
    cc (to_z-of_z (held (goal.at.returns c).Start).0, to_z-of_z (held (goal.at.returns c).Start).1, corners_hull c.args.self c.args.other)
