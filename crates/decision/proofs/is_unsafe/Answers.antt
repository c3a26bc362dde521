-- `is_unsafe` tests mesh, then step.
use Rattle.std.proofs.Common.{arith}
use Rattle.std.proofs.lemmas.Int.{to_z-of_z}
use Rattle.decision.specs.Verdict.{unsafe}
use Rattle.decision.proofs.is_unsafe.Goals as goal

pub returns-then-tolerable_touch-mesh : goal.returns-then-tolerable_touch-mesh
unfolding unsafe
returns-then-tolerable_touch-mesh c = grind (arith, to_z-of_z)

pub returns-else-tolerable_touch-mesh : goal.returns-else-tolerable_touch-mesh
unfolding unsafe
returns-else-tolerable_touch-mesh c = grind (arith, to_z-of_z)
