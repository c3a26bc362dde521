-- `report_numbers` lists the ends one by one.
use native.Mathlib.Omega.{arith}
use borrow.Author.Rules.{rules}
use mir.{Syntax.{w64}, Val.{SFits}, Facts.{to_z-of_z, to_z_pos}}
use Rattle.interval.specs.declared.Interval.{Interval}
use Rattle.c_reply.specs.Reply.{soil_numbers}
use Rattle.c_reply.proofs.report_numbers.Goals as goal
use Rattle.c_reply.proofs.report_numbers.Goals.{Start}

abbrev Fit : Interval → Type 0
Fit i = SFits w64 i.lower × SFits w64 i.upper

held : (s : Start) → Fit s.args.report.least × (Fit s.args.report.greatest × Fit s.args.report.mean)
held s = search rules

pub returns : goal.returns
unfolding soil_numbers
returns c =
    let h = held (goal.at.returns c).Start in
    rw (
      to_z-of_z h.0.0,
      to_z-of_z h.0.1,
      to_z-of_z h.1.0.0,
      to_z-of_z h.1.0.1,
      to_z-of_z h.1.1.0,
      to_z-of_z h.1.1.1,
      to_z_pos w64 {n = c.args.report.soil} (omega arith),
    )
