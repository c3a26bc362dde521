-- `gather` takes the pairs from the last to the first: the laws of proofs/Gathering.antt.
use Rattle.readings.proofs.Gathering.{Gathered}
use Rattle.readings.proofs.products.gather.Given as goal

abbrev pub invariant-loop-i : goal.invariant-loop-i
invariant-loop-i l = Gathered l.readings l.i l.t
