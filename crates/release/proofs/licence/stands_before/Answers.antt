-- `stands_before` compares every earlier station.
use Rattle.release.proofs.Entries.{among_none, among_step}
use Rattle.release.proofs.licence.stands_before.Goals as goal

pub loop-i-init : goal.loop-i-init
loop-i-init c = among_none _ _

pub loop-i-preserved : goal.loop-i-preserved
loop-i-preserved c = among_step _ _ _ c.loop-i.invariant
