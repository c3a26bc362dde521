-- `isqrt` falls to the root: no guess is below it, and a guess whose square is not above x is the root.
use Rattle.interval.specs.Root.{NotBelow}
use Rattle.interval.proofs.root.isqrt.Given as goal

abbrev pub invariant-loop-r : goal.invariant-loop-r
invariant-loop-r l = NotBelow l.x l.r

abbrev pub decreases-loop-r : goal.decreases-loop-r
decreases-loop-r l = l.r
