-- `put_soil` replies with the numbers of the report.
use mathlib.Core.Path.{sym, ap, ◌∙◌}
use Rattle.refusal.proofs.Passed.{passed_on}
use Rattle.c_reply.specs.Reply.{Numbers, soil_reply}
use Rattle.c_reply.proofs.{Replies.{replied_as, replied_length, refused_reply}}
use Rattle.c_reply.proofs.put_soil.Goals as goal

pub returns-in_err-answer : goal.returns-in_err-answer
unfolding soil_reply
returns-in_err-answer c = rw (passed_on _ c.from_residual.ensures.1) (refused_reply (sym (ap soil_reply c.in_err-answer.was)))

pub shape_of-numbers : goal.shape_of-numbers
shape_of-numbers c = replied_length c.reply.ensures

pub returns : goal.returns
unfolding soil_reply
returns c =
    replied_as (ap (Numbers 7) c.report_numbers-zs.ensures ∙ sym (ap soil_reply c.in_ok-answer.was))
    c.reply.ensures
