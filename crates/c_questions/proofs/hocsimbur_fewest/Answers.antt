-- `hocsimbur_fewest` reports the answer of the sheet's one line.
use Rattle.c_questions.proofs.{ReportCounts.{fewest_few}}
use Rattle.c_questions.proofs.hocsimbur_fewest.Goals as goal

pub tell-requires : goal.tell-requires
tell-requires c = fewest_few _ c.put_fewest-answer.ensures
