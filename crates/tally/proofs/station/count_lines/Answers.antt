-- `count_lines` adds line after line, from the last to the first: the pass of proofs/StationLines.antt.
use Prim.Native.Nat.{◌-◌}
use native.Mathlib.Omega.{arith}
use Rattle.case.specs.{Bounds.{Bounds}}
use Rattle.tally.proofs.StationLines.{counting_start, counting_small, counting_own, counting_other}
use Rattle.tally.proofs.station.count_lines.Goals as goal
use Rattle.tally.proofs.station.count_lines.Goals.{After-line_case}

-- its case is within its bounds
bounds : (c : After-line_case) → Bounds c.line_case.result
bounds c =
    rw c.line_case.ensures
    (c.requires.stored_bounds (c.loop-i.i - 1) (omega (arith, c.loop-i.invariant.within, c.loop-i-test.true)))

pub loop-i-init : goal.loop-i-init
loop-i-init c = counting_start _ _ _ _ _

pub add-t-requires-clause-small : goal.add-t-requires-clause-small
add-t-requires-clause-small c = counting_small c.loop-i.invariant c.requires.n_le_most_lines

pub loop-i-preserved-then-values-i : goal.loop-i-preserved-then-values-i
loop-i-preserved-then-values-i c = rw c.add-t.ensures (counting_own c.loop-i.invariant (omega arith) (bounds (goal.at.loop-i-preserved-then-values-i c).After-line_case) c.if-values-i.true c.line_case.ensures)

pub loop-i-preserved : goal.loop-i-preserved
loop-i-preserved c = counting_other c.loop-i.invariant (omega arith) c.if-values-i.false
