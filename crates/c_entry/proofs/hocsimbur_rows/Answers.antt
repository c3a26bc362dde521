-- `hocsimbur_rows` answers by one number.
use mathlib.Core.Path.{◌∙◌}
use Rattle.whole.proofs.Bits.{back}
use Rattle.c_entry.proofs.{Answers.{told_few, told_signed}}
use Rattle.c_entry.proofs.hocsimbur_rows.Goals as goal

pub signed_answer-requires : goal.signed_answer-requires
signed_answer-requires c = told_few c.rows_in_bytes-answer.ensures

pub returns : goal.returns
returns c =
    told_signed c.rows_in_bytes-answer.ensures
    (back c.signed_answer.result c.signed_answer.type_inv ∙ c.signed_answer.ensures)
