-- Sizes and widths of Km and of its parts.
use Prim.Native.Nat.{◌+◌, ◌*◌, ◌^◌, ◌≤◌}
use mathlib.Core.Path.{◌≡◌}
use native.Mathlib.Omega.{arith}
use lib.Dec.{lit≤, lit<}
use Rattle.interval.specs.{declared.Interval.{Interval}, Operations.{size, sum_of, minus_of, scaled_of, product_of, quotient_of}, Span.{Span}}
use Rattle.interval.proofs.{Span.{span_scaled, span_size}, Negated.{product_negated, sum_negated, span_difference, size_negated}}
use Rattle.interval.proofs.{Rules.{lits}, NumeralSpans.{numeral_point, numeral_product, numeral_quotient, numeral_wider}}
use Rattle.enclosure.{specs.Pi.{π_ends}, proofs.{RootSpan.{root_span}, Constants.{π_span}}}
use Rattle.logarithm.specs.Ends.{ln_pair}
use Rattle.case.specs.{declared.Case.{Case}, Bounds.{Bounds}}
use Rattle.formulas.proofs.Conductors.{by_place}
use Rattle.effective_number.proofs.NumberEnclosed.{counts}
use Rattle.conductors.{specs.Weights.{eight, odd_ends, spread_ends}, proofs.WeightWidths.{spread_span, inner_span}}
use Rattle.drive.specs.Ends.{number_of}
use Rattle.mesh.specs.Factor.{argument_log, kh_ends, perimeter_rods, kii_ends, inner_term, km_ends}
use Rattle.mesh.proofs.Logarithms.{argument_span}

-- 2π
pub turn_span : Span (scaled_of π_ends 2) 6283185306 6283185308 2
turn_span = span_scaled 2 π_span

module _ {c : Case} (b : Bounds c) where
  pub depth_span : Span (kh_ends c) 1118000000 1871000000 1
  unfolding kh_ends
  depth_span = root_span ((1000 + c.depth) * 10 ^ 15) 1118000000 1871000000 (omega (arith, b.depth.low)) (omega (arith, b.depth.high))

  pub kii_span : Span (kii_ends c) 0 1000000000 610
  unfolding kii_ends
  kii_span =
      let one = numeral_point 1000000000 {l = 1000000000} {h = 1000000000} (lits tt) in
      by_place (λ i. Span i 0 1000000000 610) (perimeter_rods c) (λ e. numeral_wider one (lits tt))
      (λ e. inner_span (counts b))

  pub ratio_span : Span (quotient_of (kii_ends c) (kh_ends c) 1000000000) 0 894500000 915
  ratio_span = numeral_quotient 1000000000 0 894500000 914 (lits tt) kii_span depth_span

  -- ---- (Kii/Kh)·ln(8/(π(2n−1))), below 0

  -- minus the logarithm
  above : Interval
  above = ln_pair (odd_ends (number_of c)) eight

  above_span : Span above 0 2960000000 60
  unfolding above
  above_span = spread_span (counts b)

  share : Interval
  share = product_of (quotient_of (kii_ends c) (kh_ends c) 1000000000) above 1000000000

  share_span : Span share 0 2650000000 2764
  unfolding share
  share_span = numeral_product 1000000000 0 2650000000 2763 (lits tt) ratio_span above_span

  term_is : inner_term c ≡ minus_of share
  unfolding inner_term spread_ends share above
  term_is = product_negated ratio_span above_span (lit< tt)

  pub spread_size : size (spread_ends (number_of c)) ≤ 2960000000
  unfolding spread_ends above
  spread_size = rw size_negated (span_size above_span)

  pub term_size : size (inner_term c) ≤ 2650000000
  term_size = rw (term_is, size_negated) (span_size share_span)

  -- ---- Km

  pub total_span : Span (sum_of (argument_log c) (inner_term c)) 0 11091000000 2775
  total_span = rw (term_is, sum_negated) (span_difference (lit≤ tt) (argument_span b) share_span)

  pub factor_span : Span (km_ends c) 0 17652000 6
  unfolding km_ends
  factor_span = numeral_quotient 10000000 0 17652000 5 (lits tt) total_span turn_span
