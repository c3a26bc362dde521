-- `logarithm::up_ends` meets its contract: its numbers are those of the definition, and small enough.
use Prim.Native.Nat.{◌+◌, ◌<◌}
use native.Mathlib.Omega.{arith}
use Rattle.logarithm.specs.Ends.{up_ends}
use Rattle.logarithm.proofs.{EndBounds.{Small, small, end_fits}}
use Rattle.logarithm.proofs.up_ends.Goals as goal
use Rattle.logarithm.proofs.up_ends.Goals.{After-end-low, After-reduce-r}

bounds : (c : After-reduce-r) → Small c.reduce-r.result.times c.reduce-r.result.argument
bounds c =
    rw c.reduce-r.ensures (small c.requires.0 c.requires.1.0 c.requires.1.1)

pub end-low-requires : goal.end-low-requires
end-low-requires c = ((bounds (goal.at.end-low-requires c).After-reduce-r).times, omega (arith, (bounds (goal.at.end-low-requires c).After-reduce-r).argument))

fits : (c : After-end-low) → c.end-low.result + 6 < 9223372036854775808
fits c =
    rw (c.end-low.ensures, c.reduce-r.ensures) (end_fits c.requires.0 c.requires.1.0 c.requires.1.1)

pub overflow_add-low : goal.overflow_add-low
overflow_add-low c = omega (arith, fits (goal.at.overflow_add-low c).After-end-low)

pub natural-requires : goal.natural-requires
natural-requires c = (omega (arith, fits (goal.at.natural-requires c).After-end-low), omega (arith, fits (goal.at.natural-requires c).After-end-low))

pub returns : goal.returns
unfolding up_ends
returns c = rw (c.natural.ensures, c.end-low.ensures, c.reduce-r.ensures)
