-- Sizes and widths of the resistance's ends. The widths of spans are coarse for a short side: `per-soil-near` has the one that counts.
use Prim.Native.Nat.{ℕ, ◌*◌, ◌^◌, ◌≤◌}
use native.Mathlib.{Omega.{arith}, Nat.{mul-le-mul, mul-le-mul_left}, Decide.{dec_le}}
use lib.IntN.{pos}
use Rattle.interval.specs.{Operations.{point, scaled_of, quotient_of}, Span.{Span, Relative}}
use Rattle.interval.proofs.Span.{span_natural, span_point, span_wider, span_sum, span_scaled, span_divide}
use Rattle.interval.proofs.{Relatives.{relative_add, relative_divided}, Rules.{lits}}
use Rattle.interval.proofs.NumeralSpans.{numeral_natural, numeral_outward, numeral_point, numeral_product, numeral_quotient, numeral_wider}
use Rattle.enclosure.{specs.SquareRoot.{root_pair}, proofs.RootSpan.{root_span}}
use Rattle.case.specs.{declared.Case.{Case}, Bounds.{Bounds}}
use Rattle.formulas.{specs.Lengths.{equal_counts}, proofs.Conductors.{by_place}}
use Rattle.lengths.{specs.Lengths.{side_x, lt_mm}, proofs.Lengths.{x_bounds, y_bounds, total_bounds}}
use Rattle.resistance.specs.Ends.{root_twenty, side_ends, depth_ends, shape_ends, width_ends, per_soil_ends, resistance_ends}

pub twenty_span : Span root_twenty 4472135954 4472135955 1
unfolding root_twenty
twenty_span = numeral_natural _ _ (lits tt)

pub one_span : Span (point (pos (10 ^ 9))) (10 ^ 9) (10 ^ 9) 0
one_span = numeral_point (10 ^ 9) (lits tt)

-- the root of the area, for sides in mm
area_span : (x y : ℕ) → 2500 ≤ x → 2500 ≤ y → x ≤ 720000 → y ≤ 720000 → Span (root_pair (x * y * 10 ^ 6)) 2500000 720000001 1
area_span x y p q r s = root_span (x * y * 10 ^ 6) 2500000 720000001 (omega (arith, mul-le-mul p q)) (omega (arith, mul-le-mul r s))

module _ {c : Case} (b : Bounds c) where
  -- s in micrometres
  pub side_span : Span (side_ends c) 2500000 720000001 1
  unfolding side_ends
  side_span =
      let x = x_bounds b in
      let y = y_bounds b in
      by_place (λ i. Span i 2500000 720000001 1) (equal_counts c)
      (λ e. numeral_wider (span_point (1000 * side_x c) (mul-le-mul_left 1000 x.low) (mul-le-mul_left 1000 x.high)) (lits tt))
      (λ e. area_span _ _ (omega arith) (omega arith) (omega arith) (omega arith))

  pub depth_scaled : Span (scaled_of root_twenty c.depth) 1118033988500 11180339887500 2500
  depth_scaled =
      span_wider (span_scaled c.depth twenty_span)
      (mul-le-mul_left 4472135954 b.depth.low) (mul-le-mul_left 4472135955 b.depth.high) (omega (arith, b.depth.high))

  pub share_span : Span (quotient_of (scaled_of root_twenty c.depth) (side_ends c) 1000) 0 4472135955 2078
  share_span = numeral_quotient 1000 0 4472135955 2077 (lits tt) depth_scaled side_span

  pub depth_span : Span (depth_ends c) (10 ^ 9) 5472135955 2078
  unfolding depth_ends
  depth_span = span_sum one_span share_span

  pub inverse_span : Span (quotient_of (point (pos (10 ^ 9))) (depth_ends c) (10 ^ 9)) 0 (10 ^ 9) 2079
  inverse_span = numeral_quotient (10 ^ 9) 0 (10 ^ 9) 2078 (lits tt) one_span depth_span

  pub shape_span : Span (shape_ends c) (10 ^ 9) (2 * 10 ^ 9) 2079
  unfolding shape_ends
  shape_span = span_sum one_span inverse_span

  pub width_span : Span (width_ends c) 11180000000 3220000000000 5194
  unfolding width_ends
  width_span = numeral_product (10 ^ 6) 11180000000 3220000000000 5193 (lits tt) side_span twenty_span

  -- ---- for s of at least 430 m, and of less

  module _ (l : 430000000 ≤ side_span.a) where
    long_side : Span (side_ends c) 430000000 720000001 1
    long_side = let s = side_span in rw s.is (span_natural s.a s.b l s.order s.to s.near)

    long_depth : Span (depth_ends c) (10 ^ 9) 1026100000 2
    unfolding depth_ends
    long_depth = span_sum one_span (numeral_quotient 1000 0 26100000 1 (lits tt) depth_scaled long_side)

    long_shape : Span (shape_ends c) 1970000000 (2 * 10 ^ 9) 3
    unfolding shape_ends
    long_shape = span_sum one_span (numeral_quotient (10 ^ 9) 970000000 (10 ^ 9) 2 (lits tt) one_span long_depth)

  module _ (l : 430000000 ≤ side_span.a → ⊥) where
    short_side : Span (side_ends c) 2500000 430000000 1
    short_side = let s = side_span in rw s.is (span_natural s.a s.b s.from s.order (omega (arith, s.near)) s.near)

    short_width : Span (width_ends c) 11180000000 1924000000000 5194
    unfolding width_ends
    short_width = numeral_product (10 ^ 6) 11180000000 1924000000000 5193 (lits tt) short_side twenty_span

  pub second_span : Span (quotient_of (shape_ends c) (width_ends c) (10 ^ 9)) 510000 200000000 54001
  second_span = go (dec_le 430000000 side_span.a)
    where
      go : Dec (430000000 ≤ side_span.a) → Span (quotient_of (shape_ends c) (width_ends c) (10 ^ 9)) 510000 200000000 54001
      go (yes l) = numeral_quotient (10 ^ 9) 510000 200000000 54000 (lits tt) (long_shape l) width_span
      go (no l) = numeral_quotient (10 ^ 9) 510000 200000000 54000 (lits tt) shape_span (short_width l)

  second_near : Relative (quotient_of (shape_ends c) (width_ends c) (10 ^ 9)) 200000 2
  second_near = relative_divided (10 ^ 9) 400000 1000000 200000 (lits tt) shape_span width_span

  pub total_span : Span (point (pos (lt_mm c))) 10000 38000000 0
  total_span = span_point (lt_mm c) (total_bounds b).low (total_bounds b).high

  pub first_span : Span (quotient_of (point (pos 1)) (point (pos (lt_mm c))) (10 ^ 12)) 0 100000000 1
  first_span =
      span_divide (lt_mm c) (10 ^ 12) 0 100000000 0 (omega (arith, (total_bounds b).low)) (omega arith)
      (omega (arith, (total_bounds b).low)) (omega arith) (numeral_point 1 {l = 1} {h = 1} (lits tt))

  pub per_soil_span : Span (per_soil_ends c) 510000 300000000 54002
  unfolding per_soil_ends
  per_soil_span = span_sum first_span second_span

  pub per_soil_near : Relative (per_soil_ends c) 200000 3
  unfolding per_soil_ends
  per_soil_near = relative_add first_span second_near

  pub soil_scaled : Span (scaled_of (per_soil_ends c) c.soil) 5100000 1500000000000 270010000
  soil_scaled =
      span_wider (span_scaled c.soil per_soil_span) (omega (arith, b.soil.low)) (omega (arith, b.soil.high))
      (omega (arith, b.soil.high))

  pub resistance_span : Span (resistance_ends c) 5100 1500000000 300000
  unfolding resistance_ends
  resistance_span = numeral_outward 1000 5100 1500000000 299999 (lits tt) soil_scaled
