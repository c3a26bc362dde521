-- `Interval::outward` rounds the lower end down and the upper end up.
use borrow.Author.Rules.{rules}
use mir.Facts.{to_z-of_z}
use Rattle.whole.proofs.Bits.{back}
use Rattle.interval.specs.Operations.{outward_of}
use Rattle.interval.proofs.{Sizes.{upper_below}, Held.{Held}}
use Rattle.interval.proofs.Interval.outward.Goals as goal
use Rattle.interval.proofs.Interval.outward.Goals.{Start}

held : (s : Start) → Held s.args.self
held s = search rules

pub ceil_div-requires : goal.ceil_div-requires
ceil_div-requires c =
    rw (to_z-of_z (held (goal.at.ceil_div-requires c).Start).1) (c.requires.0, upper_below _ c.requires.1)

pub returns : goal.returns
unfolding outward_of
returns c =
    cc (
      to_z-of_z (held (goal.at.returns c).Start).0,
      to_z-of_z (held (goal.at.returns c).Start).1,
      back c.floor_div.result c.floor_div.type_inv,
      back c.ceil_div.result c.ceil_div.type_inv,
    )
