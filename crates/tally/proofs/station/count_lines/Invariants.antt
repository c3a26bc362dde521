-- `count_lines` adds line after line, from the last to the first: the pass of proofs/StationLines.antt.
use Rattle.tally.proofs.StationLines.{Counting}
use Rattle.tally.proofs.station.count_lines.Given as goal

abbrev pub invariant-loop-i : goal.invariant-loop-i
invariant-loop-i l = Counting l.values l.n l.station l.yard l.area l.i l.t
