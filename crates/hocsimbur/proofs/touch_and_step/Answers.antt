-- `touch_and_step` answers the ends of both tolerable voltages of a sound record.
use Rattle.refusal.proofs.Passed.{passed_on}
use Rattle.hocsimbur.proofs.{Answers.{sound_bounds, voltages_told, voltages_refused}}
use Rattle.hocsimbur.proofs.touch_and_step.Goals as goal

pub touch_and_step-requires : goal.touch_and_step-requires
touch_and_step-requires c = sound_bounds _ c.judge.ensures c.in_ok-judge.was

pub returns : goal.returns
returns c =
    voltages_told _ c.judge.ensures c.in_ok-judge.was c.touch_and_step.ensures

pub returns-in_err-judge : goal.returns-in_err-judge
returns-in_err-judge c = rw (passed_on _ c.from_residual.ensures.1) (voltages_refused _ c.judge.ensures c.in_err-judge.was)
