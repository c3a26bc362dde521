-- `soil_current` fits by the bounds of the current and of the soil.
use lib.Dec.{lit<}
use Rattle.interval.proofs.SpanFits.{scaled_fits}
use Rattle.current.proofs.GridCurrent.{current_span}
use Rattle.drive.specs.Ends.{soil_current}
use Rattle.drive.proofs.soil_current.Goals as goal

pub scaled-requires : goal.scaled-requires
scaled-requires c =
    rw c.requires.current_value (scaled_fits 5000 (lit< tt) (lit< tt) c.requires.bounds.soil.high (current_span c.requires.bounds))

pub returns : goal.returns
unfolding soil_current
returns c = rw (c.scaled.ensures, c.requires.current_value)
