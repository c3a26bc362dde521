-- `width_term` keeps within 64 bits by the spans of its parts.
use lib.Dec.{lit<}
use Rattle.interval.proofs.SpanFits.{product_fits}
use Rattle.resistance.specs.Ends.{width_ends}
use Rattle.resistance.proofs.{Spans.{twenty_span, side_span}}
use Rattle.resistance.proofs.width_term.Goals as goal

pub product-requires : goal.product-requires
product-requires c =
    rw (c.root_twenty.ensures, c.side_term.ensures)
    (product_fits (lit< tt) (lit< tt) (side_span c.requires) twenty_span)

pub returns : goal.returns
unfolding width_ends
returns c = cc
