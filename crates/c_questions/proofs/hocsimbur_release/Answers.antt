-- `hocsimbur_release` reports the operation's own answer.
use Prim.Native.Nat.{◌<◌, ◌^◌}
use lib.ListN.{length}
use borrow.Author.Rules.{rules}
use Rattle.c_questions.proofs.{Counts.{entries_few}}
use Rattle.c_questions.proofs.hocsimbur_release.Goals as goal
use Rattle.c_questions.proofs.hocsimbur_release.Goals.{Start}

held : (s : Start) → length s.args.table.now < 2 ^ 64
held s = search rules

pub tell-requires : goal.tell-requires
tell-requires c =
    entries_few _ (held (goal.at.tell-requires c).Start) c.release-answer.ensures
