-- `first_line` goes up to the first line of the station.
use Rattle.tally.proofs.StationLines.{Before}
use Rattle.tally.proofs.station.first_line.Given as goal

abbrev pub invariant-loop-i : goal.invariant-loop-i
invariant-loop-i l = Before l.values l.n l.station l.i
