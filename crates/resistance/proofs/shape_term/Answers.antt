-- `shape_term` keeps within 64 bits by the spans of its parts.
use lib.Dec.{lit<}
use Rattle.interval.proofs.{SpanFits.{sum_fits}, Rules.{lits}, NumeralSpans.{numeral_quotient_fits}}
use Rattle.resistance.specs.Ends.{shape_ends}
use Rattle.resistance.proofs.{Spans.{one_span, depth_span, inverse_span}}
use Rattle.resistance.proofs.shape_term.Goals as goal

pub quotient-requires : goal.quotient-requires
quotient-requires c =
    rw (c.depth_term.ensures, c.point-one.ensures)
    (let f = numeral_quotient_fits {d = 1000000000} (lits tt) one_span (depth_span c.requires) in
    record { pos_bound = f.0; scale_bound = f.1 })

pub sum-requires : goal.sum-requires
sum-requires c =
    rw (c.quotient.ensures, c.depth_term.ensures, c.point-one.ensures)
    (sum_fits (lit< tt) one_span (inverse_span c.requires))

pub returns : goal.returns
unfolding shape_ends
returns c = cc
