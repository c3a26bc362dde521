-- The working of a case as a record, in the words of the page.
use Rattle.case.specs.{declared.Case.{Case}, Bounds.{Bounds}}
use Rattle.row.specs.Ends.{row_of}
use Rattle.hocsimbur.proofs.Answers.{row_sound}
use Rattle.working.specs.{Ends.{working_of}, Working.{working_answer, WorkingAnswered}}
use Rattle.working.proofs.Right.{right_working}
use Rattle.claims.specs.Workings as claim
use Rattle.claims.specs.Workings.{RowFollows, WorkingOutcome}
use Rattle.claims.proofs.Records.{by_checks}
use Rattle.std.specs.Prelude.{Result, Ok}
use Rattle.refusal.specs.{declared.Refused.{Refused}, Refused.{refuse}}
use Rattle.working.specs.declared.Quantities.{Quantities}

row_follows : {c : Case} → Bounds c → RowFollows c (working_of c)
unfolding row_of
row_follows {c} b = record { mesh = λ a. rw (row_sound c a.answer).1 (right_working b).mesh_follows }

pub working_outcome : {c : Case} {r : Result Quantities Refused} → WorkingAnswered c r → WorkingOutcome c r
unfolding working_answer
working_outcome {c} a =
    rw a.answer
    (by_checks (WorkingOutcome c) (Ok (working_of c)) c (λ n l k h. claim.refused h)
    (λ s. claim.working s (right_working s.bounds) (row_follows s.bounds)))
