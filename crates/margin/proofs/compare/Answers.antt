-- `compare` tests both pairs and works their margins.
use mathlib.Core.{Path.{◌≡◌, sym, ◌∙◌}, Bool.{true}}
use mir.Facts.{to_z-of_z}
use Rattle.whole.proofs.Bits.{back}
use Rattle.margin.specs.Margin.{comparable, four_margins}
use Rattle.margin.proofs.compare.Goals as goal
use Rattle.margin.proofs.compare.Goals.{After-comparable, After-comparable-then-comparable, Start, Then-comparable-2}

first : (c : After-comparable) → c.comparable.result ≡ comparable c.args.mesh c.args.tolerable_touch
first c = rw (to_z-of_z c.ranges.mesh, to_z-of_z c.ranges.tolerable_touch) at c.comparable.ensures

second : (c : After-comparable-then-comparable)
    → c.comparable-then-comparable.result ≡ comparable c.args.step c.args.tolerable_step
second c =
    rw (to_z-of_z c.ranges.step, to_z-of_z c.ranges.tolerable_step) at c.comparable-then-comparable.ensures

-- both pairs may be compared
module _ (c : Then-comparable-2) where
  abbrev start : Start
  start = (goal.at.Then-comparable-2 c).Start

  mesh_tested : comparable start.args.mesh start.args.tolerable_touch ≡ true
  mesh_tested = sym (first (goal.at.Then-comparable-2 c).After-comparable) ∙ c.if-comparable.true

  step_tested : comparable start.args.step start.args.tolerable_step ≡ true
  step_tested = sym (second (goal.at.Then-comparable-2 c).After-comparable-then-comparable) ∙ c.if-comparable-2.true

pub margin-requires : goal.margin-requires
margin-requires c = rw (to_z-of_z (start (goal.at.margin-requires c).Then-comparable-2).ranges.mesh, to_z-of_z (start (goal.at.margin-requires c).Then-comparable-2).ranges.tolerable_touch, mesh_tested (goal.at.margin-requires c).Then-comparable-2) tt

pub margin-requires-then-comparable-2 : goal.margin-requires-then-comparable-2
margin-requires-then-comparable-2 c =
    rw (to_z-of_z (start (goal.at.margin-requires-then-comparable-2 c).Then-comparable-2).ranges.step, to_z-of_z (start (goal.at.margin-requires-then-comparable-2 c).Then-comparable-2).ranges.tolerable_step, step_tested (goal.at.margin-requires-then-comparable-2 c).Then-comparable-2) tt

pub returns-then-comparable-2 : goal.returns-then-comparable-2
unfolding four_margins
returns-then-comparable-2 c =
    let s = start (goal.at.returns-then-comparable-2 c).Then-comparable-2 in
    let mesh =
    back c.margin.result c.margin.type_inv
    ∙ (rw (to_z-of_z s.ranges.mesh, to_z-of_z s.ranges.tolerable_touch) at c.margin.ensures) in
    let step =
    back c.margin-then-comparable-2.result c.margin-then-comparable-2.type_inv
    ∙ (rw (to_z-of_z s.ranges.step, to_z-of_z s.ranges.tolerable_step) at c.margin-then-comparable-2.ensures)
    in
    rw (mesh_tested (goal.at.returns-then-comparable-2 c).Then-comparable-2, step_tested (goal.at.returns-then-comparable-2 c).Then-comparable-2, mesh, step)

pub returns-else-comparable-2 : goal.returns-else-comparable-2
unfolding four_margins
returns-else-comparable-2 c = rw (sym (first (goal.at.returns-else-comparable-2 c).After-comparable) ∙ c.if-comparable.true, sym (second (goal.at.returns-else-comparable-2 c).After-comparable-then-comparable) ∙ c.if-comparable-2.false)

pub returns-else-comparable : goal.returns-else-comparable
unfolding four_margins
returns-else-comparable c = rw (sym (first (goal.at.returns-else-comparable c).After-comparable) ∙ c.if-comparable.false)
