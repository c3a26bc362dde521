-- Sizes and widths of LM.
use Prim.Native.Nat.{◌+◌, ◌*◌, ◌^◌, ◌≤◌}
use native.Mathlib.{Omega.{arith}, Nat.{mul-le-mul, mul-le-mul_left}}
use lib.{Dec.{eqb, lit≤, lit<}, IntN.{pos}}
use Rattle.interval.specs.{Operations.{point, product_of, quotient_of}, Span.{Span}}
use Rattle.interval.proofs.{Span.{span_point, span_wider, span_sum, span_product}, Rules.{lits}}
use Rattle.interval.proofs.NumeralSpans.{numeral_point, numeral_quotient}
use Rattle.case.specs.{declared.Case.{Case}, Bounds.{Between, Bounds}}
use Rattle.formulas.proofs.Conductors.{by_place}
use Rattle.lengths.specs.Lengths.{side_x, side_y, lc_mm, lr_mm, lt_mm}
use Rattle.lengths.proofs.Lengths.{x_bounds, y_bounds, conductor_bounds, rodlen_high, rod_bound, total_bounds}
use Rattle.mesh.specs.Ends.{diagonal_ends, rod_weight, weighed_length, lm_ends}
use Rattle.enclosure.proofs.RootSpan.{root_span}

module _ {c : Case} (b : Bounds c) where
  -- Lx²+Ly²
  pub squares_bounds : Between 12500000 (side_x c * side_x c + side_y c * side_y c) 1036800000000
  squares_bounds =
      let x = x_bounds b in
      let y = y_bounds b in
      record {
        low = omega (arith, mul-le-mul x.low x.low, mul-le-mul y.low y.low);
        high = omega (arith, mul-le-mul x.high x.high, mul-le-mul y.high y.high);
      }

  pub diagonal_span : Span (diagonal_ends c) 3535000 1018300000 1
  unfolding diagonal_ends
  diagonal_span =
      root_span ((side_x c * side_x c + side_y c * side_y c) * 10 ^ 6) 3535000 1018300000 (omega (arith, squares_bounds.low))
      (omega (arith, squares_bounds.high))

  pub rodlen_span : Span (point (pos (122 * c.rodlen))) 0 1220000 0
  rodlen_span = span_point (122 * c.rodlen) (omega arith) (mul-le-mul_left 122 (rodlen_high b))

  pub share_span : Span (quotient_of (point (pos (122 * c.rodlen))) (diagonal_ends c) 10000000000) 0 3452000000 978
  share_span = numeral_quotient 10000000000 0 3452000000 977 (lits tt) rodlen_span diagonal_span

  pub weight_span : Span (rod_weight c) 1000000000 5002000000 978
  unfolding rod_weight
  weight_span = span_sum (numeral_point _ {l = 1000000000} {h = 1550000000} (lits tt)) share_span

  pub rods_point : Span (point (pos (lr_mm c))) (lr_mm c) 2000000 0
  rods_point = span_point (lr_mm c) (omega arith) (rod_bound b)

  pub rods_span : Span (product_of (rod_weight c) (point (pos (lr_mm c))) 1000000) (1000 * lr_mm c) 10004000000 1957
  rods_span = span_product 1000000 (1000 * lr_mm c) 10004000000 1956 (lit< tt) (omega arith) (lit≤ tt) (lit≤ tt) weight_span rods_point

  pub conductors_span : Span (point (pos (1000 * lc_mm c))) (1000 * lc_mm c) 36000000000 0
  conductors_span = span_point (1000 * lc_mm c) (omega arith) (mul-le-mul_left 1000 (conductor_bounds b).high)

  pub weighed_span : Span (weighed_length c) (1000 * lt_mm c) 46004000000 1957
  unfolding weighed_length lt_mm
  weighed_span = span_wider (span_sum conductors_span rods_span) (omega arith) (lit≤ tt) (lit≤ tt)

  pub total_point : Span (point (pos (1000 * lt_mm c))) (1000 * lt_mm c) 38000000000 0
  total_point = span_point (1000 * lt_mm c) (omega arith) (mul-le-mul_left 1000 (total_bounds b).high)

  pub lm_span : Span (lm_ends c) (1000 * lt_mm c) 46004000000 1957
  unfolding lm_ends
  lm_span =
      by_place (λ i. Span i (1000 * lt_mm c) 46004000000 1957) (eqb c.place 1) (λ e. weighed_span)
      (λ e. span_wider total_point (omega arith) (lit≤ tt) (lit≤ tt))

  pub lm_low : 10000000 ≤ 1000 * lt_mm c
  lm_low = mul-le-mul_left 1000 (total_bounds b).low
