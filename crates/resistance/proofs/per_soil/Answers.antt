-- `per_soil` keeps within 64 bits by the spans of its parts.
use native.Mathlib.Omega.{arith}
use lib.Dec.{lit<}
use Rattle.interval.proofs.{SpanFits.{sum_fits}, Rules.{lits}, NumeralSpans.{numeral_point, numeral_quotient_fits}}
use Rattle.lengths.proofs.Lengths.{total_bounds}
use Rattle.resistance.specs.Ends.{per_soil_ends}
use Rattle.resistance.proofs.{Spans.{total_span, shape_span, width_span, first_span, second_span}}
use Rattle.resistance.proofs.per_soil.Goals as goal

pub point-total-requires : goal.point-total-requires
point-total-requires c = rw c.lt.ensures (omega (arith, (total_bounds c.requires).high))

pub quotient-first-requires : goal.quotient-first-requires
quotient-first-requires c =
    rw (c.point.ensures, c.point-total.ensures, c.lt.ensures)
    (let f = numeral_quotient_fits {d = 1000000000000} (lits tt) (numeral_point 1 {l = 1} {h = 1} (lits tt)) (total_span c.requires) in
    record { pos_bound = f.0; scale_bound = f.1 })

pub quotient-requires : goal.quotient-requires
quotient-requires c =
    let b = c.requires in
    rw (c.width_term.ensures, c.shape_term.ensures) (let f = numeral_quotient_fits {d = 1000000000} (lits tt) (shape_span b) (width_span b) in
    record { pos_bound = f.0; scale_bound = f.1 })

pub sum-requires : goal.sum-requires
sum-requires c =
    let b = c.requires in
    rw (
      c.quotient.ensures,
      c.width_term.ensures,
      c.shape_term.ensures,
      c.quotient-first.ensures,
      c.point.ensures,
      c.point-total.ensures,
      c.lt.ensures,
    )
    (sum_fits (lit< tt) (first_span b) (second_span b))

pub returns : goal.returns
unfolding per_soil_ends
returns c = cc
