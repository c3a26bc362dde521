-- `work_row` puts the parts together.
use mathlib.Core.Path.{ap}
use native.Mathlib.Omega.{arith}
use mir.{Syntax.{w64}, Val.{SFits}, Facts.{to_z-of_z, to_z_pos}}
use Rattle.row.specs.{Parts.{fixed_of, driven_of}, Ends.{case_verdict, row_of}}
use borrow.Author.Rules.{rules}
use Rattle.row.proofs.work.work_row.Goals as goal
use Rattle.row.proofs.work.work_row.Goals.{After-size_number}

size_held : (c : After-size_number) → SFits w64 c.size_number.result
size_held c = search rules

pub potential_rise-rise-requires : goal.potential_rise-rise-requires
unfolding driven_of
potential_rise-rise-requires c =
    record { bounds = c.requires; ohms_value = c.resistance-ohms.ensures; current_value = ap (λ p. p.current) c.driven_parts-driven.ensures }

pub size_number-requires : goal.size_number-requires
unfolding fixed_of
size_number-requires c =
    record { bounds = c.requires; factor_value = ap (λ p. p.factor) c.fixed_parts-fixed.ensures }

pub returns : goal.returns
unfolding row_of case_verdict fixed_of driven_of
returns c =
    rw (
      to_z_pos w64 {n = c.args.c.station} (omega arith),
      to_z_pos w64 {n = c.args.c.season} (omega arith),
      to_z-of_z (size_held (goal.at.returns c).After-size_number),
      c.potential_rise-rise.ensures,
      c.resistance-ohms.ensures,
      c.size_number.ensures,
      c.verdict_of.ensures,
      c.driven_parts-driven.ensures,
      c.fixed_parts-fixed.ensures,
    )
