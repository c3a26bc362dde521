-- `conductor_size` answers the size of a sound record, by the factor in its row.
use Rattle.row.specs.Ends.{row_of}
use Rattle.hocsimbur.specs.Asked.{factor_in_row, size_by_row}
use Rattle.refusal.proofs.Passed.{passed_on}
use Rattle.hocsimbur.proofs.{Answers.{sound_bounds, size_told, size_refused}}
use Rattle.hocsimbur.proofs.conductor_size.Goals as goal

pub df-requires : goal.df-requires
df-requires c = sound_bounds _ c.judge.ensures c.in_ok-judge.was

pub conductor_size-requires : goal.conductor_size-requires
conductor_size-requires c =
    record { bounds = sound_bounds _ c.judge.ensures c.in_ok-judge.was; factor_value = c.df.ensures }

pub returns : goal.returns
unfolding size_by_row factor_in_row row_of
returns c =
    size_told _ c.judge.ensures c.in_ok-judge.was c.conductor_size.ensures

pub returns-in_err-judge : goal.returns-in_err-judge
returns-in_err-judge c = rw (passed_on _ c.from_residual.ensures.1) (size_refused _ c.judge.ensures c.in_err-judge.was)
