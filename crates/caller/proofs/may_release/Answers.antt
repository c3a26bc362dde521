-- `may_release` answers true only for a safe row, and a right row that is safe is safe for the exact values.
use Rattle.decision.specs.declared.Verdict.TheVariants.{Unsafe, Undecided}
use Rattle.caller.proofs.Release.{refused_held, verdict_held, released, not_unsafe, not_undecided}
use Rattle.caller.proofs.may_release.Goals as goal

pub returns-in_default : goal.returns-in_default
returns-in_default c = refused_held c.row.ensures c.in_default.is

pub returns-in-Safe : goal.returns-in-Safe
returns-in-Safe c =
    released c.row.ensures c.in-Ok.is c.in-Safe.is

pub returns-in-Unsafe : goal.returns-in-Unsafe
returns-in-Unsafe c =
    verdict_held c.row.ensures c.in-Ok.is Unsafe c.in-Unsafe.is not_unsafe

pub returns-in-Undecided : goal.returns-in-Undecided
returns-in-Undecided c =
    verdict_held c.row.ensures c.in-Ok.is Undecided c.in-Undecided.is not_undecided
