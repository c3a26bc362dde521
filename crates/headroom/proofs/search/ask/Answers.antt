-- `ask` works the verdict by the fixed parts, which another fault current does not change.
use mathlib.Core.Path.{◌≡◌, sym, ap, ◌∙◌}
use Rattle.row.{specs.Parts.{fixed_of}, proofs.SameParts.{same_parts}}
use Rattle.yards.specs.Yards.{is_safe}
use Rattle.headroom.proofs.{Bracket.{fault_bounds}}
use Rattle.headroom.proofs.search.ask.Goals as goal
use Rattle.headroom.proofs.search.ask.Goals.{After-with_fault-d}

-- the fixed parts of the case with the fault current
module _ (c : After-with_fault-d) where
  parts : c.args.fixed ≡ fixed_of c.with_fault-d.result
  parts =
      c.requires.fixed_value ∙ sym (same_parts c.args.fault c.args.c) ∙ sym (ap fixed_of c.with_fault-d.ensures)

pub driven_parts-driven-requires : goal.driven_parts-driven-requires
driven_parts-driven-requires c =
    record { bounds = rw c.with_fault-d.ensures (fault_bounds c.requires.bounds _ c.requires.in_range); fixed_value = parts (goal.at.driven_parts-driven-requires c).After-with_fault-d }

pub parts_safe-requires : goal.parts_safe-requires
parts_safe-requires c = record { fixed_value = parts (goal.at.parts_safe-requires c).After-with_fault-d; driven_value = c.driven_parts-driven.ensures }

pub returns : goal.returns
returns c =
    c.parts_safe.ensures ∙ ap is_safe c.with_fault-d.ensures
