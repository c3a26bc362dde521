-- §11.1, §11.3: the answer of a summary as one count, that of its stations.
use Rattle.std.specs.Prelude.{ℕ, Result, Ok, Err}
use Rattle.refusal.specs.{declared.Refused.{Refused}, Refused.{refuse}}
use Rattle.stations.specs.declared.Counts.{Counts}

unfoldable pub station_count : Result Counts Refused → Result ℕ Refused
station_count (Ok counts) = Ok counts.stations
station_count (Err why) = Err why
