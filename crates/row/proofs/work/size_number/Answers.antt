-- `size_number` is the number as a signed one; it fits.
use Rattle.formulas.proofs.Size.{size_bound}
use Rattle.current.proofs.GridCurrent.{upper_bounds}
use mathlib.Core.Path.{ap}
use native.Mathlib.Omega.{arith}
use lib.IntN.{pos}
use mir.{Syntax.{w64}, Val.{SFits}, Facts.{to_z_pos}}
use Rattle.row.proofs.work.size_number.Goals as goal
use Rattle.row.proofs.work.size_number.Goals.{After-conductor_size-size}

fits : (c : After-conductor_size-size) → SFits w64 (pos c.conductor_size-size.result)
fits c =
    record { sfits = rw c.conductor_size-size.ensures (omega (arith, size_bound c.requires.bounds (upper_bounds c.requires.bounds))) }

pub overflow_cast-result : goal.overflow_cast-result
overflow_cast-result c = fits (goal.at.overflow_cast-result c).After-conductor_size-size

pub returns : goal.returns
returns c = rw (to_z_pos w64 (fits (goal.at.returns c).After-conductor_size-size).sfits) (ap pos c.conductor_size-size.ensures)
