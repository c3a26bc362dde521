-- `row` answers the row of a sound record.
use Rattle.refusal.proofs.Passed.{passed_on}
use Rattle.hocsimbur.proofs.{Answers.{sound_bounds, row_told, row_refused}}
use Rattle.hocsimbur.proofs.row.Goals as goal

pub work_row-requires : goal.work_row-requires
work_row-requires c = sound_bounds _ c.judge.ensures c.in_ok-judge.was

pub returns : goal.returns
returns c = row_told _ c.judge.ensures c.in_ok-judge.was c.work_row.ensures

pub returns-in_err-judge : goal.returns-in_err-judge
returns-in_err-judge c = rw (passed_on _ c.from_residual.ensures.1) (row_refused _ c.judge.ensures c.in_err-judge.was)
