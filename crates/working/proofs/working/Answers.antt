-- `working` answers the working of a sound record.
use Rattle.refusal.proofs.Passed.{passed_on}
use Rattle.working.proofs.Right.{sound_bounds, working_told, working_refused}
use Rattle.working.proofs.working.Goals as goal

pub work-requires : goal.work-requires
work-requires c = sound_bounds _ c.judge.ensures c.in_ok-judge.was

pub returns-in_err-judge : goal.returns-in_err-judge
returns-in_err-judge c = rw (passed_on _ c.from_residual.ensures.1) (working_refused _ c.judge.ensures c.in_err-judge.was)

pub returns : goal.returns
returns c = working_told _ c.judge.ensures c.in_ok-judge.was c.work.ensures
