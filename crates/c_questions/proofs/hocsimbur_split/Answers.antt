-- `hocsimbur_split` reports the operation's own answer.
use mathlib.Core.Path.{refl, ap}
use Rattle.whole.proofs.Bits.{back}
use Rattle.c_reply.{specs.Reply.{split_reply}, proofs.Replies.{replied_as}}
use Rattle.c_questions.proofs.{Telling.{told_as}, ReportCounts.{split_few}, SplitSize.{every_split_small}}
use Rattle.c_questions.proofs.hocsimbur_split.Goals as goal

pub put_split-answer-requires : goal.put_split-answer-requires
put_split-answer-requires c = every_split_small _ c.split.result c.split.ensures

pub tell-requires : goal.tell-requires
tell-requires c = split_few _ c.put_split-answer.ensures

pub returns : goal.returns
returns c =
    record {
      count = c.put_split-answer.result;
      numbers = replied_as (ap split_reply c.split.ensures) c.put_split-answer.ensures;
      told = told_as (back c.tell.result c.tell.type_inv) refl c.tell.ensures;
    }
