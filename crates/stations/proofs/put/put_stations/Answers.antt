-- `put_stations` puts station after station: the pass of proofs/Tables.antt.
use lib.{IntN.{pos}, ListN.{get_or}}
use mir.{Syntax.{w64}, Val.{SFits}, Facts.{to_z-of_z}}
use Rattle.station_sums.specs.Sums.{none}
use Rattle.stations.proofs.{Tables.{putting_next, putting_end}}
use borrow.Author.Rules.{rules}
use Rattle.stations.proofs.put.put_stations.Goals as goal

pub loop-i-preserved : goal.loop-i-preserved
unfolding none
loop-i-preserved c =
    let held : SFits w64 (get_or c.args.stations c.loop-i.i (pos 0)) = search rules in
    putting_next c.loop-i.invariant c.loop-i-test.true c.requires.count_in_bounds (rw (← to_z-of_z held) c.put_station.ensures)

pub returns : goal.returns
returns c = putting_end c.loop-i.invariant c.loop-i-test.false
