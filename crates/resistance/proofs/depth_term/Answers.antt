-- `depth_term` keeps within 64 bits by the spans of its parts.
use lib.Dec.{lit<}
use Rattle.interval.proofs.{SpanFits.{sum_fits, scaled_fits}, Rules.{lits}, NumeralSpans.{numeral_quotient_fits}}
use Rattle.resistance.specs.Ends.{depth_ends}
use Rattle.resistance.proofs.{Spans.{one_span, twenty_span, side_span, depth_scaled, share_span}}
use Rattle.resistance.proofs.depth_term.Goals as goal

pub scaled-requires : goal.scaled-requires
scaled-requires c =
    rw c.root_twenty.ensures (scaled_fits 2500 (lit< tt) (lit< tt) c.requires.depth.high twenty_span)

pub quotient-share-requires : goal.quotient-share-requires
quotient-share-requires c =
    let b = c.requires in
    rw (c.side_term.ensures, c.scaled.ensures, c.root_twenty.ensures)
    (let f = numeral_quotient_fits {d = 1000} (lits tt) (depth_scaled b) (side_span b) in
    record { pos_bound = f.0; scale_bound = f.1 })

pub sum-requires : goal.sum-requires
sum-requires c =
    rw (c.point.ensures, c.quotient-share.ensures, c.side_term.ensures, c.scaled.ensures, c.root_twenty.ensures)
    (sum_fits (lit< tt) one_span (share_span c.requires))

pub returns : goal.returns
unfolding depth_ends
returns c = cc
