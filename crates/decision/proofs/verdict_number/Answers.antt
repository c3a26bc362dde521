-- `verdict_number` is the number of each verdict.
use Rattle.decision.specs.Verdict.{verdict_number}
use Rattle.decision.proofs.verdict_number.Goals as goal

pub returns-in-Safe : goal.returns-in-Safe
unfolding verdict_number
returns-in-Safe c = rw c.in-Safe.is

pub returns-in-Unsafe : goal.returns-in-Unsafe
unfolding verdict_number
returns-in-Unsafe c = rw c.in-Unsafe.is

pub returns-in-Undecided : goal.returns-in-Undecided
unfolding verdict_number
returns-in-Undecided c = rw c.in-Undecided.is
