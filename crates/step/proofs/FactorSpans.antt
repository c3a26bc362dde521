-- Sizes and widths of the ends of Ks and of its parts.
use Prim.Native.Nat.{ℕ, ◌-◌, ◌*◌, ◌^◌, ◌≤◌, ◌<◌}
use mathlib.Core.{Path.{◌≡◌}, Bool.{false}}
use native.Mathlib.{Omega.{arith}, Nat.{mul-le-mul, mul-le-mul_left, one-le-pow, pow-le-pow_right}}
use lib.{Dec.{lit≤, lit<}, IntN.{pos}}
use Rattle.interval.{specs.{Operations.{point, difference_of}, Span.{Span}}, proofs.Span.{span_point, span_sum, span_divide}}
use Rattle.interval.proofs.{Negated.{span_difference}, Rules.{lits}, NumeralSpans.{numeral_point, numeral_quotient, numeral_wider}}
use Rattle.enclosure.proofs.Constants.{π_span}
use Rattle.case.specs.{declared.Case.{Case}, Bounds.{Between, Bounds}}
use Rattle.formulas.{specs.Lengths.{equal_counts}, proofs.Conductors.{by_place}}
use Rattle.effective_number.proofs.NumberEnclosed.{counts}
use Rattle.conductors.{specs.Weights.{half_power_ends}, proofs.WeightWidths.{half_span}}
use Rattle.drive.specs.Ends.{number_of}
use Rattle.step.specs.Ends.{per_metre, power_of_two, share_ends, reach, spacing_sum, ks_ends}

per_metre_span : (a d high : ℕ) → 0 < d → a * 10 ^ 12 ≤ high * d → Span (per_metre a d) 0 high 1
unfolding per_metre
per_metre_span a d high p h =
    span_divide d (10 ^ 12) 0 high 0 p (omega arith) h (omega arith) (span_point a {l = a} {h = a} (omega arith) (omega arith))

pub one_span : Span (point (pos (10 ^ 9))) (10 ^ 9) (10 ^ 9) 0
one_span = numeral_point (10 ^ 9) (lits tt)

module _ {c : Case} (b : Bounds c) where
  pub depth_span : Span (per_metre 1 (2 * c.depth)) 0 2000000000 1
  depth_span = per_metre_span 1 (2 * c.depth) 2000000000 (omega (arith, b.depth.low)) (omega (arith, b.depth.low))

  pub reach_span : Span (per_metre 1 (reach c)) 0 400000000 1
  unfolding reach
  reach_span = per_metre_span 1 (reach c) 400000000 (omega (arith, b.space.low)) (omega (arith, b.space.low))

  -- ---- (1 − 0.5^(n−2))/D

  pub power_bounds : Between 1 (power_of_two c) 8388608
  unfolding power_of_two
  power_bounds =
      record { low = one-le-pow _ 2 (lit< tt); high = pow-le-pow_right {n = 2} (lit< tt) {j = 23} (omega (arith, b.across.high)) }

  pub divisor_bounds : Between 2500 (power_of_two c * c.space) 251658240000
  divisor_bounds = record { low = mul-le-mul power_bounds.low b.space.low; high = mul-le-mul power_bounds.high b.space.high }

  square_span : Span (per_metre (power_of_two c - 1) (power_of_two c * c.space)) 0 400000000 1
  square_span =
      let p : ℕ = power_of_two c in
      per_metre_span (p - 1) (p * c.space) 400000000 (omega (arith, divisor_bounds.low))
      (omega (arith, mul-le-mul_left p b.space.low))

  -- 1 − 0.5^(n−2) of unequal counts
  pub rest_span : equal_counts c ≡ false → Span (difference_of (point (pos (10 ^ 9))) (half_power_ends (number_of c))) 0 (10 ^ 9) 2120
  rest_span e = span_difference (lit≤ tt) one_span (half_span (counts b) e)

  pub space_span : Span (point (pos c.space)) 2500 30000 0
  space_span = span_point c.space b.space.low b.space.high

  pub share_span : Span (share_ends c) 0 400000000 849
  unfolding share_ends
  share_span =
      let d = b.space.low in
      by_place (λ i. Span i 0 400000000 849) (equal_counts c) (λ e. numeral_wider square_span (lits tt))
      (λ e. span_divide _ _ 0 400000000 848 (omega arith) (omega arith) (omega arith) (omega arith) (rest_span e))

  -- ---- Ks

  pub sum_span : Span (spacing_sum c) 0 2800000000 851
  unfolding spacing_sum
  sum_span = span_sum (span_sum depth_span reach_span) share_span

  pub factor_span : Span (ks_ends c) 0 10000000 4
  unfolding ks_ends
  factor_span = numeral_quotient (10 ^ 7) 0 10000000 3 (lits tt) sum_span π_span
