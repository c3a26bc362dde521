-- `station_count` answers the count of stations.
use mathlib.Core.Path.{sym, ap}
use Rattle.refusal.proofs.Passed.{passed_on}
use Rattle.c_reply.specs.Stations.{station_count}
use Rattle.c_reply.proofs.station_count.Goals as goal

pub returns-in_err-summed : goal.returns-in_err-summed
unfolding station_count
returns-in_err-summed c = rw (passed_on _ c.from_residual.ensures.1) (sym (ap station_count c.in_err-summed.was))

pub returns : goal.returns
unfolding station_count
returns c = sym (ap station_count c.in_ok-summed.was)
