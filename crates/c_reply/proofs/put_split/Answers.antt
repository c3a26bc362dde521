-- `put_split` replies with the grid's two parts and the split.
use Prim.Native.Nat.{ℕ, ◌<◌, ◌^◌}
use mathlib.Core.Path.{◌≡◌, sym, ap, ◌∙◌}
use borrow.Author.Rules.{rules}
use mir.{Syntax.{w64}, Val.{SFits}, Facts.{to_z-of_z, to_z_pos}}
use Rattle.std.specs.Prelude.{Result, Ok}
use Rattle.refusal.{specs.declared.Refused.{Refused}, proofs.Passed.{passed_on}}
use Rattle.staged.specs.declared.GridShare.{GridShare}
use Rattle.c_reply.specs.Reply.{split_reply, SmallSplit}
use Rattle.c_reply.proofs.{Replies.{replied_as, replied_length, refused_reply}}
use Rattle.c_reply.proofs.put_split.Goals as goal
use Rattle.c_reply.proofs.put_split.Goals.{In_ok-split}

small : {a : Result GridShare Refused} {g : GridShare} → SmallSplit a → a ≡ Ok g → g.per_mille < 2 ^ 63
unfolding SmallSplit
small f e = rw e at f

pub overflow_cast-zs : goal.overflow_cast-zs
overflow_cast-zs c = record { sfits = small c.requires c.in_ok-split.was }

held : (c : In_ok-split) → SFits w64 c.in_ok-split.split.in_phase × SFits w64 c.in_ok-split.split.quadrature
held c = search rules

pub returns-in_err-split : goal.returns-in_err-split
unfolding split_reply
returns-in_err-split c = rw (passed_on _ c.from_residual.ensures.1) (refused_reply (sym (ap split_reply c.in_err-split.was)))

pub shape_of-numbers : goal.shape_of-numbers
shape_of-numbers c = replied_length c.reply.ensures

pub returns : goal.returns
unfolding split_reply
returns c =
    let h = held (goal.at.returns c).In_ok-split in
    replied_as
    ((rw (to_z-of_z h.0, to_z-of_z h.1, to_z_pos w64 (small c.requires c.in_ok-split.was)))
    ∙ sym (ap split_reply c.in_ok-split.was)) c.reply.ensures
