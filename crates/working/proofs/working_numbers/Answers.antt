-- `working_numbers` lists the ends one by one; each fits 64 bits with its sign.
use borrow.Author.Rules.{rules}
use mir.Facts.{to_z-of_z}
use Rattle.interval.proofs.Held.{Held}
use Rattle.working.specs.Numbers.{working_numbers}
use Rattle.working.proofs.working_numbers.Goals as goal
use Rattle.working.proofs.working_numbers.Goals.{Start}

module _ (s : Start) where
  first_held : let w = s.args.w in Held w.cs × Held w.root_time × Held w.side × Held w.lc × Held w.lr
  first_held = search rules

  next_held : let w = s.args.w in Held w.lt × Held w.lm × Held w.ls × Held w.n × Held w.ki
  next_held = search (rules, s.well_formed.0.1.1.1.1.1.1.1)

  last_held : let w = s.args.w in Held w.kii × Held w.kh × Held w.km × Held w.ks × Held w.driven
  last_held = search (rules, s.well_formed.0.1.1.1.1.1.1.1.1.1.1.1.1)

pub returns : goal.returns
unfolding working_numbers
returns c =
    let f = first_held (goal.at.returns c).Start in
    let n = next_held (goal.at.returns c).Start in
    let l = last_held (goal.at.returns c).Start in
    simp (
      to_z-of_z f.0.0,
      to_z-of_z f.0.1,
      to_z-of_z f.1.0,
      to_z-of_z f.1.1,
      to_z-of_z f.2.0,
      to_z-of_z f.2.1,
      to_z-of_z f.3.0,
      to_z-of_z f.3.1,
      to_z-of_z f.4.0,
      to_z-of_z f.4.1,
      to_z-of_z n.0.0,
      to_z-of_z n.0.1,
      to_z-of_z n.1.0,
      to_z-of_z n.1.1,
      to_z-of_z n.2.0,
      to_z-of_z n.2.1,
      to_z-of_z n.3.0,
      to_z-of_z n.3.1,
      to_z-of_z n.4.0,
      to_z-of_z n.4.1,
      to_z-of_z l.0.0,
      to_z-of_z l.0.1,
      to_z-of_z l.1.0,
      to_z-of_z l.1.1,
      to_z-of_z l.2.0,
      to_z-of_z l.2.1,
      to_z-of_z l.3.0,
      to_z-of_z l.3.1,
      to_z-of_z l.4.0,
      to_z-of_z l.4.1,
    )
