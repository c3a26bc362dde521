-- `margins` reads the four ends of a row.
use mathlib.Core.Path.{◌∙◌}
use lib.{IntN.{pos}, ListN.{get_or}}
use mir.{Syntax.{w64}, Val.{SFits}, Facts.{to_z-of_z}}
use borrow.Author.{Rules.{rules}, Tests.{ne_eqb}}
use Rattle.row.specs.Places.{tolerable_touch_lower_place, tolerable_step_lower_place, mesh_upper_place, step_upper_place}
use Rattle.margin.specs.Margin.{margins_of}
use Rattle.margin.proofs.margins.Goals as goal
use Rattle.margin.proofs.margins.Goals.{After-compare}

held : (c : After-compare)
    → SFits w64 (get_or c.args.row.now mesh_upper_place (pos 0))
    × SFits w64 (get_or c.args.row.now tolerable_touch_lower_place (pos 0))
    × SFits w64 (get_or c.args.row.now step_upper_place (pos 0))
    × SFits w64 (get_or c.args.row.now tolerable_step_lower_place (pos 0))
held c = search rules

pub returns-then-row-eq-ROW_LENGTH : goal.returns-then-row-eq-ROW_LENGTH
unfolding margins_of
returns-then-row-eq-ROW_LENGTH c =
    let h = held (goal.at.returns-then-row-eq-ROW_LENGTH c).After-compare in
    (rw (to_z-of_z h.0, to_z-of_z h.1, to_z-of_z h.2, to_z-of_z h.3) at c.compare.ensures)
    ∙ rw c.if-row-eq-ROW_LENGTH.true

pub returns : goal.returns
unfolding margins_of
returns c = rw (ne_eqb _ _ c.if-row-eq-ROW_LENGTH.false)
