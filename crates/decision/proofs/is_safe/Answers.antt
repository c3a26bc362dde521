-- `is_safe` tests mesh, then step.
use Rattle.std.proofs.Common.{arith}
use Rattle.std.proofs.lemmas.Int.{to_z-of_z}
use Rattle.decision.specs.Verdict.{safe}
use Rattle.decision.proofs.is_safe.Goals as goal

pub returns-then-mesh-tolerable_touch : goal.returns-then-mesh-tolerable_touch
unfolding safe
returns-then-mesh-tolerable_touch c = grind (arith, to_z-of_z)

pub returns-else-mesh-tolerable_touch : goal.returns-else-mesh-tolerable_touch
unfolding safe
returns-else-mesh-tolerable_touch c = grind (arith, to_z-of_z)
