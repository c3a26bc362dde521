-- The resistance's ends include the exact value's ends: each line follows the formula's line.
use Prim.Native.Nat.{◌*◌, ◌^◌}
use mathlib.Core.Path.{refl}
use native.Mathlib.Omega.{arith}
use lib.{Dec.{lit≤}, IntN.{pos}}
use Rattle.interval.{specs.Operations.{point, quotient_of}, proofs.Span.{span_divisor}}
use Rattle.exact.{specs.{Fraction.{whole}, Exact.{Exact, exactly, ◌+x◌, ◌·x◌, ◌÷x◌}, Reported.{ten}}, proofs.Order.{trans≈}}
use Rattle.exact.proofs.Reported.{scale_product, decimal_over}
use Rattle.exact.proofs.Quantity.{Quantity, quantity_exactly, quantity_sum, quantity_product, quantity_quotient}
use Rattle.enclosure.{specs.Enclosure.{Encloses}, proofs.Counts.{decimal_count, count_product}}
use Rattle.enclosure.proofs.{Basics.{encloses_count, encloses_whole, encloses_outward}, Constants.{√20_encloses}}
use Rattle.enclosure.proofs.{Multiples.{encloses_multiple}, Sums.{encloses_sum, encloses_times}, Products.{encloses_product}}
use Rattle.enclosure.proofs.{Quotients.{encloses_quotient}, SquareRoot.{pair_ends}, Roots.{encloses_sqrt_even}}
use Rattle.case.specs.{declared.Case.{Case}, Bounds.{Bounds}}
use Rattle.formulas.specs.{Lengths.{ρ, h, area, LT, equal_counts, √area, s}, Resistance.{√20, resistance}, Width.{μΩ}}
use Rattle.formulas.proofs.{Positive.{h_pos, LT_pos}, Quantities.{one}, Conductors.{by_both, quantity_s}, Consistent.{q20}}
use Rattle.lengths.{specs.Lengths.{side_x, side_y, lt_mm}, proofs.Lengths.{x_is, y_is, total_is}}
use Rattle.resistance.specs.Ends.{root_twenty, side_ends, depth_ends, shape_ends, width_ends, per_soil_ends, resistance_ends}
use Rattle.resistance.proofs.Spans.{side_span, depth_span, width_span, total_span}

abbrev one_x : Exact
one_x = exactly (whole 1)

twenty : Encloses √20 (ten 9) root_twenty
unfolding √20 root_twenty
twenty = √20_encloses

one_encloses : Encloses one_x (ten 9) (point (pos (10 ^ 9)))
unfolding ten
one_encloses = encloses_whole 1 (ten 9) refl

module _ {c : Case} (b : Bounds c) where
  -- the area in mm²
  area_encloses : Encloses (exactly (area c)) (scale_product (ten 3) (ten 3)) (point (pos (side_x c * side_y c)))
  unfolding area
  area_encloses =
      let x = side_x c in
      let y = side_y c in
      encloses_count (pos (x * y)) (scale_product (ten 3) (ten 3))
      (count_product x y (ten 3) (ten 3) (trans≈ (x_is c) (decimal_over x 3)) (trans≈ (y_is c) (decimal_over y 3)))

  -- s in micrometres
  pub side_encloses : Encloses (s c) (ten 6) (side_ends c)
  unfolding s √area side_ends ten
  side_encloses =
      by_both (λ x i. Encloses x (ten 6) i) (equal_counts c)
      (λ e. encloses_count _ (ten 6) (trans≈ (x_is c) (decimal_count (side_x c) 3 1000 (ten 6) refl (omega arith))))
      (λ e. encloses_sqrt_even (ten 6) (side_x c * side_y c) (10 ^ 6) refl (omega arith) (pair_ends _) area_encloses)

  -- 1 + h·√20/s
  q_depth : Quantity (exactly (h c) ·x √20)
  q_depth = quantity_product (quantity_exactly (h_pos b)) q20

  q_term : Quantity (one_x +x exactly (h c) ·x √20 ÷x s c)
  q_term = quantity_sum one (quantity_quotient q_depth (quantity_s b))

  depth_encloses : Encloses (one_x +x exactly (h c) ·x √20 ÷x s c) (ten 9) (depth_ends c)
  unfolding depth_ends h ten
  depth_encloses =
      encloses_sum one.consistent (quantity_quotient q_depth (quantity_s b)).consistent one_encloses
      (encloses_quotient (ten 9) 1000 refl (span_divisor (lit≤ tt) (side_span b)).0 q_depth.consistent (quantity_s b).consistent
      (encloses_multiple c.depth (ten 3) (ten 12) refl (decimal_over c.depth 3) q20.consistent twenty) side_encloses)

  -- 1 + 1/(1 + h·√20/s)
  q_shape : Quantity (one_x +x one_x ÷x (one_x +x exactly (h c) ·x √20 ÷x s c))
  q_shape = quantity_sum one (quantity_quotient one q_term)

  shape_encloses : Encloses (one_x +x one_x ÷x (one_x +x exactly (h c) ·x √20 ÷x s c)) (ten 9) (shape_ends c)
  unfolding shape_ends ten
  shape_encloses =
      encloses_sum one.consistent (quantity_quotient one q_term).consistent one_encloses
      (encloses_quotient (ten 9) (10 ^ 9) refl (span_divisor (lit≤ tt) (depth_span b)).0 one.consistent q_term.consistent
      one_encloses depth_encloses)

  -- √20·s
  q_width : Quantity (s c ·x √20)
  q_width = quantity_product (quantity_s b) q20

  width_encloses : Encloses (s c ·x √20) (ten 9) (width_ends c)
  unfolding width_ends ten
  width_encloses = encloses_product (ten 9) (10 ^ 6) refl (quantity_s b).consistent q20.consistent side_encloses twenty

  -- the two parts
  q_total : Quantity (exactly (LT c))
  q_total = quantity_exactly (LT_pos b)

  first_encloses : Encloses (one_x ÷x exactly (LT c)) (ten 9) (quotient_of (point (pos 1)) (point (pos (lt_mm c))) (10 ^ 12))
  unfolding ten
  first_encloses =
      encloses_quotient (ten 9) (10 ^ 12) refl (span_divisor (lit≤ tt) (total_span b)).0 one.consistent q_total.consistent
      (encloses_whole 1 (ten 0) refl) (encloses_count (pos (lt_mm c)) (ten 3) (trans≈ (total_is c) (decimal_over (lt_mm c) 3)))

  second_encloses : Encloses ((one_x +x one_x ÷x (one_x +x exactly (h c) ·x √20 ÷x s c)) ÷x (s c ·x √20)) (ten 9)
      (quotient_of (shape_ends c) (width_ends c) (10 ^ 9))
  unfolding ten
  second_encloses =
      encloses_quotient (ten 9) (10 ^ 9) refl (span_divisor (lit≤ tt) (width_span b)).0 q_shape.consistent q_width.consistent
      shape_encloses width_encloses

  pub resistance_encloses : Encloses (resistance c) μΩ (resistance_ends c)
  unfolding resistance resistance_ends per_soil_ends ρ μΩ ten
  resistance_encloses =
      encloses_outward {u = ten 9} (ten 6) 1000 refl
      (encloses_times c.soil
      (quantity_sum (quantity_quotient one q_total) (quantity_quotient q_shape q_width)).consistent
      (encloses_sum (quantity_quotient one q_total).consistent (quantity_quotient q_shape q_width).consistent first_encloses
      second_encloses))
