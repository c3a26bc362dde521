-- `Interval::hull` takes the lesser lower end and the greater upper one.
use borrow.Author.Rules.{rules}
use mir.Facts.{to_z-of_z}
use Rattle.whole.proofs.{Bits.{back}, Choice.{min_is, max_is}}
use Rattle.interval.specs.Operations.{hull_of}
use Rattle.interval.proofs.{Held.{Held}}
use Rattle.interval.proofs.Interval.hull.Goals as goal
use Rattle.interval.proofs.Interval.hull.Goals.{Start}

held : (s : Start) → Held s.args.self × Held s.args.other
held s = search rules

pub returns : goal.returns
unfolding hull_of
returns c =
    let h = held (goal.at.returns c).Start in
    cc (
      to_z-of_z h.0.0,
      to_z-of_z h.0.1,
      to_z-of_z h.1.0,
      to_z-of_z h.1.1,
      back c.min.result c.min.type_inv,
      back c.max.result c.max.type_inv,
      min_is _ _,
      max_is _ _,
    )
