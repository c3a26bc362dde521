-- `tell_lines` reports the answer of the lines.
use Rattle.c_lines.proofs.{Arrays.{lines_few}}
use Rattle.c_lines.proofs.tell_lines.Goals as goal

pub tell-requires : goal.tell-requires
tell-requires c = lines_few c.answer_lines-answer.ensures
