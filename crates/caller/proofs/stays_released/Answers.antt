-- `stays_released` asks whether a yard may be released only where the later fault current is in range and not higher.
use native.Mathlib.Omega.{arith}
use Rattle.caller.proofs.{Later.{not_less, stays_released_lem}}
use Rattle.caller.proofs.stays_released.Goals as goal

pub returns-then-fault-lt-LEAST_FAULT : goal.returns-then-fault-lt-LEAST_FAULT
returns-then-fault-lt-LEAST_FAULT c = not_less (λ low less. omega (arith, c.if-fault-lt-LEAST_FAULT.true))

pub returns-then-c-fault : goal.returns-then-c-fault
returns-then-c-fault c = not_less (λ low less. omega (arith, c.if-c-fault.true))

pub returns : goal.returns
returns c =
    stays_released_lem (omega (arith, c.if-fault-lt-LEAST_FAULT.false)) (omega (arith, c.if-c-fault.false)) c.may_release.ensures
