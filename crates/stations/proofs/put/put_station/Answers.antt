-- `put_station` puts the six numbers in their own part of the table.
use mir.{Syntax.{w64}, Val.{SFits}, Facts.{to_z-of_z}}
use Rattle.stations.proofs.{Tables.{put_at_lem}}
use borrow.Author.Rules.{rules}
use Rattle.stations.proofs.put.put_station.Goals as goal
use Rattle.stations.proofs.put.put_station.Goals.{Start}

held : (s : Start) → SFits w64 s.args.station
held s = search rules

pub returns : goal.returns
returns c =
    put_at_lem c.args.i c.args.table.now _ _ (rw (to_z-of_z (held (goal.at.returns c).Start)) at c.put_numbers.ensures)
