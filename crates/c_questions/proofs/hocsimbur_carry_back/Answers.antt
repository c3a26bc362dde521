-- `hocsimbur_carry_back` reports the operation's own answer.
use Rattle.case.specs.declared.Form.TheVariants.{Former}
use Rattle.c_questions.proofs.{Counts.{bytes_few}}
use Rattle.c_questions.proofs.hocsimbur_carry_back.Goals as goal

pub tell-requires : goal.tell-requires
tell-requires c = bytes_few Former _ _ c.carry_back-answer.ensures
