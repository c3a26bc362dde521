-- `first_wrong` goes through the entries: the search of proofs/Entries.antt.
use Rattle.std.proofs.Common.{◌∙◌, sym}
use Rattle.release.proofs.Entries.{searching_start, searching_found, searching_step, searching_end}
use Rattle.release.proofs.licence.first_wrong.Goals as goal

pub loop-k-init : goal.loop-k-init
loop-k-init c = searching_start _

pub returns-in-Some : goal.returns-in-Some
returns-in-Some c = searching_found c.loop-k.invariant c.loop-k-test.true (sym c.wrong_column.ensures ∙ c.in-Some.is)

pub loop-k-preserved : goal.loop-k-preserved
loop-k-preserved c = searching_step c.loop-k.invariant c.loop-k-test.true (sym c.wrong_column.ensures ∙ c.in_default.is)

pub returns : goal.returns
returns c = searching_end c.loop-k.invariant c.loop-k-test.false
