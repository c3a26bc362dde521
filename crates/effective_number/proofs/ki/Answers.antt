-- `ki` keeps within 64 bits by the span of n.
use lib.Dec.{lit≤, lit<}
use Rattle.interval.proofs.{Span.{span_scaled}, SpanFits.{sum_fits, scaled_fits}, Rules.{lits}, NumeralSpans.{numeral_point}}
use Rattle.effective_number.specs.Number.{ki_ends}
use Rattle.effective_number.proofs.ki.Goals as goal

pub scaled-requires : goal.scaled-requires
scaled-requires c = scaled_fits 148 (lit< tt) (lit< tt) (lit≤ tt) c.requires

pub sum-requires : goal.sum-requires
sum-requires c =
    rw (c.scaled.ensures, c.point.ensures)
    (sum_fits (lit< tt) (numeral_point 6440000000 {l = 0} {h = 6440000000} (lits tt)) (span_scaled 148 c.requires))

pub returns : goal.returns
unfolding ki_ends
returns c = cc
