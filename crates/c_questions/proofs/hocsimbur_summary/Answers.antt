-- `hocsimbur_summary` reports the operation's own answer.
use Prim.Native.Nat.{◌<◌, ◌^◌}
use lib.ListN.{length}
use borrow.Author.Rules.{rules}
use Rattle.whole.proofs.Bits.{back}
use Rattle.c_questions.proofs.{Counts.{stations_few}, Telling.{told_as}}
use Rattle.c_questions.proofs.hocsimbur_summary.Goals as goal
use Rattle.c_questions.proofs.hocsimbur_summary.Goals.{Start}

held : (s : Start) → length s.args.beside.now < 2 ^ 64
held s = search rules

pub tell-requires : goal.tell-requires
tell-requires c =
    rw c.station_count-answer.ensures (stations_few c.summary.result (held (goal.at.tell-requires c).Start)
    c.summary.ensures)

pub returns : goal.returns
returns c =
    record {
      answer = c.summary.result;
      asked = c.summary.ensures;
      told = told_as (back c.tell.result c.tell.type_inv) c.station_count-answer.ensures c.tell.ensures;
    }
