-- `first_wrong` goes through the entries: the search of proofs/Entries.antt.
use Rattle.release.proofs.Entries.{Searching}
use Rattle.release.proofs.licence.first_wrong.Given as goal

abbrev pub invariant-loop-k : goal.invariant-loop-k
invariant-loop-k l = Searching l.licence l.k
