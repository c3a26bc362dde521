-- `ends` is a wide product: 2π's ends times s, over the count.
use mathlib.Core.Path.{◌∙◌}
use Rattle.readings.specs.Ends.{ends_of}
use Rattle.readings.proofs.{Spans.{ends_wide}}
use Rattle.readings.proofs.ends.Goals as goal

pub wide_product-requires : goal.wide_product-requires
wide_product-requires c =
    rw (c.two_pi.ensures, c.point.ensures) (ends_wide c.args.s c.requires.count_nonzero.0 c.requires.count_nonzero.1 c.requires.s_bound)

pub returns : goal.returns
unfolding ends_of
returns c = c.wide_product.ensures ∙ rw (c.two_pi.ensures, c.point.ensures)
