-- `km` keeps within 64 bits by the spans of its parts.
use native.Mathlib.Omega.{arith}
use lib.Dec.{lit≤, lit<}
use Rattle.interval.proofs.Span.{span_size, span_divisor}
use Rattle.enclosure.proofs.Constants.{π_span}
use Rattle.mesh.specs.Factor.{km_ends}
use Rattle.mesh.proofs.{Logarithms.{argument_span}, FactorSpans.{turn_span, term_size, total_span}}
use Rattle.mesh.proofs.factor.km.Goals as goal

pub scaled-turn-requires : goal.scaled-turn-requires
scaled-turn-requires c = rw c.pi.ensures (lit< tt, omega (arith, span_size π_span))

pub sum-requires : goal.sum-requires
sum-requires c =
    rw (c.inner_term.ensures, c.argument_log.ensures)
    (omega (arith, span_size (argument_span c.requires.bounds), term_size c.requires.bounds))

pub quotient-requires : goal.quotient-requires
quotient-requires c =
    rw (
      c.sum.ensures,
      c.inner_term.ensures,
      c.argument_log.ensures,
      c.scaled-turn.ensures,
      c.pi.ensures,
    )
    (record {
      pos_bound = span_divisor (lit≤ tt) turn_span;
      scale_bound = (lit< tt, omega (arith, span_size (total_span c.requires.bounds)));
    })

pub returns : goal.returns
unfolding km_ends
returns c = cc
