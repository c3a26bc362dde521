-- `sum_rows` adds row after row: the pass of proofs/RowSums.antt.
use Rattle.station_sums.proofs.RowSums.{Summing}
use Rattle.station_sums.proofs.gather.sum_rows.Given as goal

abbrev pub invariant-loop-i : goal.invariant-loop-i
invariant-loop-i l = Summing l.table l.places l.n l.i l.sums
