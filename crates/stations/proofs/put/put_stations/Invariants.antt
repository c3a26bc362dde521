-- `put_stations` puts station after station: the pass of proofs/Tables.antt.
use Rattle.stations.proofs.{Tables.{Putting}}
use Rattle.stations.proofs.put.put_stations.Given as goal

abbrev pub invariant-loop-i : goal.invariant-loop-i
invariant-loop-i l = Putting l.stations l.sums l.count l.initial.table l.i l.table
