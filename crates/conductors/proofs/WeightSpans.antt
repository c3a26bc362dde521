-- Sizes of what depends on n, for any pair n in 10^−7 from 2 to 25.
use lib.{Dec.{lit≤}, IntN.{pos}}
use Rattle.interval.specs.{declared.Interval.{Interval}, Operations.{point, difference_of, scaled_of}, Span.{Span}}
use Rattle.interval.proofs.{Span.{span_scaled}, Negated.{span_less}, Rules.{lits}, NumeralSpans.{numeral_natural, numeral_product}}
use Rattle.enclosure.proofs.Constants.{π_span}
use Rattle.conductors.specs.Weights.{odd_ends, ln2_ends}

pub ln2_span : Span ln2_ends 693147180 693147181 1
unfolding ln2_ends
ln2_span = numeral_natural _ _ (lits tt)

module _ {n : Interval} (s : Span n 20000000 250000000 2) where
  pub twice_span : Span (scaled_of n 2) 40000000 500000000 4
  twice_span = span_scaled 2 s

  less_span : Span (difference_of (scaled_of n 2) (point (pos 10000000))) 30000000 490000000 4
  less_span = span_less 10000000 (lit≤ tt) twice_span

  pub odd_span : Span (odd_ends n) 9424777959000 153938040046000 1305639
  unfolding odd_ends
  odd_span = numeral_product 10000 9424777959000 153938040046000 1305638 (lits tt) π_span less_span
