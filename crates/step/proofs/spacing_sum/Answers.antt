-- `spacing_sum` keeps within 64 bits by the spans of its three parts.
use lib.Dec.{lit<}
use Rattle.interval.proofs.{Span.{span_sum}, SpanFits.{sum_fits}}
use Rattle.step.specs.Ends.{reach, spacing_sum}
use Rattle.step.proofs.{FactorSpans.{depth_span, reach_span, share_span}}
use Rattle.step.proofs.spacing_sum.Goals as goal

pub sum-by_depth-requires : goal.sum-by_depth-requires
unfolding reach
sum-by_depth-requires c =
    let b = c.requires.bounds in
    rw (c.per_metre-2.ensures, c.per_metre.ensures) (sum_fits (lit< tt) (depth_span b) (reach_span b))

pub sum-requires : goal.sum-requires
unfolding reach
sum-requires c =
    let b = c.requires.bounds in
    rw (c.spacing_share.ensures, c.sum-by_depth.ensures, c.per_metre-2.ensures, c.per_metre.ensures)
    (sum_fits (lit< tt) (span_sum (depth_span b) (reach_span b)) (share_span b))

pub returns : goal.returns
unfolding reach spacing_sum
returns c = cc
