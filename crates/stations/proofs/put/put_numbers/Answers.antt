-- `put_numbers` copies the six numbers; each fits 64 bits with its sign.
use mathlib.Core.Path.{◌∙◌}
use native.Mathlib.Omega.{arith}
use mir.{Syntax.{w64}, Val.{SFits}, Facts.{to_z-of_z, to_z_pos}}
use Rattle.station_sums.specs.Sums.{six}
use borrow.Author.Rules.{rules}
use Rattle.stations.proofs.put.put_numbers.Goals as goal
use Rattle.stations.proofs.put.put_numbers.Goals.{Start}

held : (s : Start) → SFits w64 s.args.station × SFits w64 s.args.s.season
held s = search rules

pub returns : goal.returns
unfolding six
returns c =
    let h = held (goal.at.returns c).Start in
    let s = c.args.s in
    c.copy_from_slice.ensures.after
    ∙ simp (
      to_z-of_z h.0,
      to_z_pos w64 {n = s.seasons} (omega arith),
      to_z_pos w64 {n = s.safe} (omega arith),
      to_z_pos w64 {n = s.not_safe} (omega arith),
      to_z_pos w64 {n = s.undecided} (omega arith),
      to_z-of_z h.1,
    )
