-- `square` keeps within 64 bits by the spans of its parts.
use mathlib.Core.Path.{◌≡◌}
use lib.{Dec.{lit<}, IntN.{pos}}
use Rattle.interval.{specs.{Operations.{point}, Span.{Span}}, proofs.{SpanFits.{sum_fits}, Rules.{lits}}}
use Rattle.interval.proofs.NumeralSpans.{numeral_point, numeral_quotient_fits, numeral_wider}
use Rattle.exponential.specs.Ends.{billion}
use Rattle.decrement.specs.Ends.{ratio_ends, rest_ends, square_ends}
use Rattle.decrement.proofs.{Spans.{exponent_span, power_span, rest_ratio_wide}, Widths.{product_span}}
use Rattle.decrement.proofs.square.Goals as goal
use Rattle.decrement.proofs.square.Goals.{After-difference-rest, After-quotient-ratio}

one : Span (point (pos billion)) 0 billion 0
one = numeral_point billion (lits tt)

pub quotient-ratio-requires : goal.quotient-ratio-requires
quotient-ratio-requires c =
    let fits = numeral_quotient_fits {d = 1000000000000000000} (lits tt) (numeral_point 2 {l = 2} {h = 2} (lits tt)) (exponent_span c.requires) in
    rw (c.point.ensures, c.exponent-q.ensures) (record { pos_bound = fits.0; scale_bound = fits.1 })

pub exp_pair-requires : goal.exp_pair-requires
exp_pair-requires c =
    rw c.exponent-q.ensures (numeral_wider (exponent_span c.requires) (lits tt))

pub difference-rest-requires : goal.difference-rest-requires
difference-rest-requires c =
    rw (c.exp_pair.ensures, c.point-2.ensures, c.exponent-q.ensures) (sum_fits (lit< tt) one (power_span c.requires))

ratio : (c : After-quotient-ratio) → let s = c.args in c.quotient-ratio.result ≡ ratio_ends s.c
unfolding ratio_ends
ratio c = rw (c.quotient-ratio.ensures, c.point.ensures, c.exponent-q.ensures)

rest : (c : After-difference-rest)
    → let s = c.args in c.difference-rest.result ≡ rest_ends s.c
unfolding rest_ends
rest c =
    rw (c.difference-rest.ensures, c.exp_pair.ensures, c.point-2.ensures, c.exponent-q.ensures)

pub wide_product-requires : goal.wide_product-requires
wide_product-requires c =
    rw (rest (goal.at.wide_product-requires c).After-difference-rest, ratio (goal.at.wide_product-requires c).After-quotient-ratio) (rest_ratio_wide c.requires)

pub sum-requires : goal.sum-requires
sum-requires c =
    rw (c.wide_product.ensures, c.point-3.ensures, rest (goal.at.sum-requires c).After-difference-rest, ratio (goal.at.sum-requires c).After-quotient-ratio)
    (sum_fits (lit< tt) one (product_span c.requires))

pub returns : goal.returns
unfolding square_ends
returns c =
    rw (c.sum.ensures, c.wide_product.ensures, c.point-3.ensures, rest (goal.at.returns c).After-difference-rest, ratio (goal.at.returns c).After-quotient-ratio)
