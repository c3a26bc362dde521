-- `fixed_parts` puts the fixed parts together.
use Rattle.tolerable.specs.Ends.{touch_and_step}
use Rattle.row.specs.Parts.{fixed_of}
use Rattle.row.proofs.parts.fixed_parts.Goals as goal

pub returns : goal.returns
unfolding fixed_of touch_and_step
returns c =
    rw (
      c.ks.ensures,
      c.ls.ensures,
      c.km.ensures,
      c.lm.ensures,
      c.by_counts-by.ensures,
      c.touch_and_step-tolerable.ensures,
      c.df-factor.ensures,
    )
