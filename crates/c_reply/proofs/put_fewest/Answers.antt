-- `put_fewest` replies with the lines, the rods and how many yards were tried.
use mathlib.Core.Path.{sym, ap, ◌∙◌}
use native.Mathlib.Omega.{arith}
use mir.{Syntax.{w64}, Facts.{to_z_pos}}
use Rattle.std.specs.Prelude.{Ok}
use Rattle.refusal.proofs.Passed.{passed_on}
use Rattle.c_reply.specs.Reply.{fewest_reply}
use Rattle.c_reply.proofs.{Replies.{replied_as, replied_length, refused_reply}}
use Rattle.c_reply.proofs.put_fewest.Goals as goal

pub returns-in_err-lines : goal.returns-in_err-lines
unfolding fewest_reply
returns-in_err-lines c = rw (passed_on _ c.from_residual.ensures.1) (refused_reply (sym (ap fewest_reply c.in_err-lines.was)))

pub shape_of-numbers-in-Found : goal.shape_of-numbers-in-Found
shape_of-numbers-in-Found c = replied_length c.reply.ensures

pub returns-in-Found : goal.returns-in-Found
unfolding fewest_reply
returns-in-Found c =
    replied_as
    ((rw (
      to_z_pos w64 {n = c.in-Found.lines} (omega arith),
      to_z_pos w64 {n = c.in-Found.rods} (omega arith),
      to_z_pos w64 {n = c.in-Found.tried} (omega arith),
    ))
    ∙ sym (ap fewest_reply (c.in_ok-lines.was ∙ ap Ok c.in-Found.is))) c.reply.ensures

pub shape_of-numbers-in-None : goal.shape_of-numbers-in-None
shape_of-numbers-in-None c = replied_length c.reply-in-None.ensures

pub returns-in-None : goal.returns-in-None
unfolding fewest_reply
returns-in-None c =
    replied_as ((rw (to_z_pos w64 {n = c.in-None.tried} (omega arith))) ∙ sym (ap fewest_reply (c.in_ok-lines.was ∙ ap Ok c.in-None.is))) c.reply-in-None.ensures
