-- `decrement_factor` answers the ends of the factor of a sound record, which are those in its row.
use Rattle.row.specs.Ends.{row_of}
use Rattle.hocsimbur.specs.Asked.{factor_in_row}
use Rattle.refusal.proofs.Passed.{passed_on}
use Rattle.hocsimbur.proofs.{Answers.{sound_bounds, factor_right, pair_told, pair_refused}}
use Rattle.hocsimbur.proofs.decrement_factor.Goals as goal

pub df-requires : goal.df-requires
df-requires c = sound_bounds _ c.judge.ensures c.in_ok-judge.was

pub returns : goal.returns
unfolding factor_in_row row_of
returns c = pair_told _ c.judge.ensures factor_right c.in_ok-judge.was c.df.ensures

pub returns-in_err-judge : goal.returns-in_err-judge
returns-in_err-judge c = rw (passed_on _ c.from_residual.ensures.1) (pair_refused _ c.judge.ensures c.in_err-judge.was)
