-- `hocsimbur_soil` reports the operation's own answer.
use Rattle.c_questions.proofs.{ReportCounts.{soil_few}}
use Rattle.c_questions.proofs.hocsimbur_soil.Goals as goal

pub tell-requires : goal.tell-requires
tell-requires c = soil_few _ c.put_soil-answer.ensures
