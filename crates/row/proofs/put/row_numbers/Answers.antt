-- `row_numbers` lists the numbers of a row; each fits 64 bits with its sign.
use borrow.Author.Rules.{rules}
use mir.{Syntax.{w64}, Val.{SFits}, Facts.{to_z-of_z}}
use Rattle.interval.proofs.Held.{Held}
use Rattle.row.specs.Row.{numbers}
use Rattle.row.proofs.put.row_numbers.Goals as goal
use Rattle.row.proofs.put.row_numbers.Goals.{After-verdict_number}

told_held : (c : After-verdict_number) → SFits w64 c.verdict_number.result
told_held c = search rules

module _ (c : After-verdict_number) where
  numbers_held : let r = c.args.r in SFits w64 r.station × SFits w64 r.season × SFits w64 r.size
  numbers_held = search rules

  first_held : let r = c.args.r in Held r.current × Held r.factor × Held r.tolerable_touch
      × Held r.tolerable_step
  first_held = search rules

  last_held : let r = c.args.r in Held r.mesh × Held r.step × Held r.resistance × Held r.rise
  last_held = search (rules, c.well_formed.0.1.1.1.1.1.1.1.1)

pub returns : goal.returns
unfolding numbers
returns c =
    let n = numbers_held (goal.at.returns c).After-verdict_number in
    let f = first_held (goal.at.returns c).After-verdict_number in
    let l = last_held (goal.at.returns c).After-verdict_number in
    simp (
      to_z-of_z (told_held (goal.at.returns c).After-verdict_number),
      to_z-of_z n.0,
      to_z-of_z n.1,
      to_z-of_z n.2,
      to_z-of_z f.0.0,
      to_z-of_z f.0.1,
      to_z-of_z f.1.0,
      to_z-of_z f.1.1,
      to_z-of_z f.2.0,
      to_z-of_z f.2.1,
      to_z-of_z f.3.0,
      to_z-of_z f.3.1,
      to_z-of_z l.0.0,
      to_z-of_z l.0.1,
      to_z-of_z l.1.0,
      to_z-of_z l.1.1,
      to_z-of_z l.2.0,
      to_z-of_z l.2.1,
      to_z-of_z l.3.0,
      to_z-of_z l.3.1,
    ) (rw c.verdict_number.ensures)
