-- `grid_part` takes one branch after the other from the injected current.
use Prim.Native.Nat.{◌+◌, ◌*◌}
use Rattle.staged.proofs.{GridCurrent.{Left}}
use Rattle.staged.proofs.grid.grid_part.Given as goal

abbrev pub invariant-loop-part : goal.invariant-loop-part
invariant-loop-part l = Left l.parts l.left (2 * (l.part-index + 1))
