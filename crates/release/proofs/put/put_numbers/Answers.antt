-- `put_numbers` copies the eight numbers.
use mathlib.Core.Path.{◌∙◌}
use native.Mathlib.Omega.{arith}
use mir.{Syntax.{w64}, Facts.{to_z_pos}}
use Rattle.release.specs.Entry.{eight}
use Rattle.release.proofs.put.put_numbers.Goals as goal

pub returns : goal.returns
unfolding eight
returns c =
    let t = c.args.t in
    c.copy_from_slice.ensures.after
    ∙ simp (
      to_z_pos w64 {n = c.args.station} (omega arith),
      to_z_pos w64 {n = c.released_or_held.result} (omega arith),
      to_z_pos w64 {n = c.args.without} (omega arith),
      to_z_pos w64 {n = t.not_safe} (omega arith),
      to_z_pos w64 {n = t.undecided} (omega arith),
      to_z_pos w64 {n = t.other} (omega arith),
      to_z_pos w64 {n = t.small} (omega arith),
      to_z_pos w64 {n = c.reported_fault.result} (omega arith),
    )
    (rw (c.released_or_held.ensures, c.reported_fault.ensures))
