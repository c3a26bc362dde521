-- `hocsimbur_carry` reports the operation's own answer.
use Rattle.case.specs.declared.Form.TheVariants.{Present}
use Rattle.c_questions.proofs.{Counts.{bytes_few}}
use Rattle.c_questions.proofs.hocsimbur_carry.Goals as goal

pub tell-requires : goal.tell-requires
tell-requires c = bytes_few Present _ _ c.carry-answer.ensures
