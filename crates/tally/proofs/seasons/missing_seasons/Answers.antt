-- `missing_seasons` adds the four seasons.
use Rattle.tally.specs.{Lines.{licensed}, Tally.{lacks, missing_by}}
use Rattle.tally.proofs.seasons.missing_seasons.Goals as goal

pub returns : goal.returns
unfolding missing_by lacks licensed
returns c = rw (c.lacking-4.ensures.value, c.lacking-3.ensures.value, c.lacking-2.ensures.value, c.lacking.ensures.value)
