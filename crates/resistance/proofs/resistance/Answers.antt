-- `resistance` keeps within 64 bits by the spans of its parts.
use lib.Dec.{lit<}
use Rattle.interval.proofs.SpanFits.{scaled_fits, outward_fits}
use Rattle.resistance.specs.Ends.{resistance_ends}
use Rattle.resistance.proofs.{Spans.{per_soil_span, soil_scaled}}
use Rattle.resistance.proofs.resistance.Goals as goal

pub scaled-requires : goal.scaled-requires
scaled-requires c =
    rw c.per_soil.ensures (scaled_fits 5000 (lit< tt) (lit< tt) c.requires.soil.high (per_soil_span c.requires))

pub outward-requires : goal.outward-requires
outward-requires c =
    rw (c.scaled.ensures, c.per_soil.ensures) (outward_fits (lit< tt) (lit< tt) (soil_scaled c.requires))

pub returns : goal.returns
unfolding resistance_ends
returns c = cc
