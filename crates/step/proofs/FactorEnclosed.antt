-- The ends of Ks include the exact value's ends.
use Prim.Native.Nat.{ℕ, ◌+◌, ◌-◌, ◌*◌, ◌^◌, ◌<◌}
use mathlib.Core.Path.{◌≡◌, refl, ap}
use native.Mathlib.{Omega.{arith}, Nat.{mul-pos}}
use lib.{Dec.{lit≤}, IntN.{pos}}
use Rattle.interval.{specs.{Operations.{point, sum_of, difference_of, quotient_of}, declared.Interval.{Interval}}, proofs.Span.{span_divisor}}
use Rattle.exact.specs.Fraction.{Fraction, ◌<f◌, ◌≈f◌, whole, decimal, ◌+f◌, neg, ◌−f◌, ◌·f◌, inv, ◌÷f◌}
use Rattle.exact.specs.{Exact.{Exact, exactly, ◌−x◌, ◌÷x◌}, Depth.{work_depth, Consistent, SameEnds}, Reported.{Scale, ten, reported}}
use Rattle.exact.proofs.{Order.{refl≈, sym≈, trans≈}, Sums.{cong−}, Products.{cong·}, Divisors.{inv_cong}, Points.{Point, point_same}}
use Rattle.exact.proofs.{KnownEnds.{same_refl, same_trans}, Alike.{quotient_same}, Fractions.{exactly_difference, exactly_quotient}}
use Rattle.exact.proofs.Consistency.{proper_at, consistent_exactly, consistent_sum, consistent_difference, consistent_minus}
use Rattle.exact.proofs.{Exponential.{consistent_exp}, Reported.{decimal_over}, Quantity.{quantity_exactly, quantity_π}}
use Rattle.enclosure.{specs.Enclosure.{Encloses}, proofs.Basics.{encloses_same, encloses_exactly, encloses_count, encloses_whole}}
use Rattle.enclosure.proofs.{Sums.{encloses_sum, encloses_difference}, Quotients.{encloses_quotient}, Constants.{π_encloses, π_span}}
use Rattle.case.specs.{declared.Case.{Case}, Bounds.{Bounds}}
use Rattle.formulas.{specs.{Lengths.{D, h, equal_counts}, Step.{half_power, Ks}}, proofs.{Positive.{decimal_pos}, Conductors.{by_both}}}
use Rattle.formulas.proofs.{Quantities.{one, consistent_half_exponent}, Consistent.{consistent_share}}
use Rattle.conductors.proofs.WeightsEnclosed.{half_encloses}
use Rattle.step.specs.Ends.{per_metre, power_of_two, share_ends, reach, spacing_sum, ks_ends}
use Rattle.step.proofs.{FactorSpans.{power_bounds, space_span}, Ratios.{inverse_is, counted, counted_point, sum_point}}

-- a fraction between the ends of a pair
encloses_point : {q : Fraction} {u : Scale} {i : Interval} → Point q (reported u i) → Encloses (exactly q) u i
unfolding reported
encloses_point h = encloses_exactly h.low h.high

-- one over m millimetres
inverse_point : {q : Fraction} {m : ℕ} → 0 < m → q ≈f decimal m 3 → Point (inv q) (reported (ten 9) (per_metre 1 m))
unfolding per_metre counted decimal ten
inverse_point {q} {m} p e =
    point_same (trans≈ (sym≈ (inv_cong (decimal_pos 3 p) (sym≈ e))) (trans≈ (inverse_is (decimal m 3) p refl) (omega arith)))
    (counted_point 1 m (10 ^ 12) p (ten 9))

-- 1 − 1/p over s millimetres
share_point : {p s : ℕ} → 0 < p → 0 < s → Point ((whole 1 −f inv (whole p)) ÷f decimal s 3) (reported (ten 9) (per_metre (p - 1) (p * s)))
unfolding per_metre counted whole decimal ten ◌÷f◌ ◌·f◌ ◌−f◌ ◌+f◌ neg
share_point {p} {s} hp hs =
    let e : p ≡ (p - 1) + 1 = omega arith in
    let f = ap (λ t. t * (p * s)) e in
    point_same
    (trans≈ (cong· (cong− (refl≈ (whole 1)) (inverse_is (whole p) hp refl)) (inverse_is (decimal s 3) hs refl)) (omega (arith, f)))
    (counted_point (p - 1) (p * s) (10 ^ 12) (mul-pos hp hs) (ten 9))

-- a difference of fractions over a fraction is one fraction
share_same : (p q : Fraction) {d : Fraction} → whole 0 <f d
    → SameEnds (((exactly p −x exactly q) ÷x exactly d) work_depth) (exactly ((p −f q) ÷f d) work_depth)
unfolding ◌÷x◌
share_same p q {d} h =
    let k = quantity_exactly h in
    same_trans
    (quotient_same (proper_at k.consistent (lit≤ tt)) (k.positive.at work_depth (lit≤ tt)) (exactly_difference p q work_depth)
    (same_refl (exactly d work_depth)))
    (exactly_quotient (p −f q) d work_depth)

twice : (m : ℕ) → whole 2 ·f decimal m 3 ≈f decimal (2 * m) 3
unfolding whole decimal ◌·f◌
twice m = omega arith

both : (m k : ℕ) → decimal m 3 +f decimal k 3 ≈f decimal (m + k) 3
unfolding decimal ◌+f◌
both m k = omega arith

module _ {c : Case} (b : Bounds c) where
  space_pos : 0 < c.space
  space_pos = omega (arith, b.space.low)

  -- 1/(2h) + 1/(D+h)
  depths_point : Point (inv (whole 2 ·f h c) +f inv (D c +f h c))
      (reported (ten 9) (sum_of (per_metre 1 (2 * c.depth)) (per_metre 1 (reach c))))
  unfolding h D reach
  depths_point =
      sum_point (ten 9) _ _ (inverse_point (omega (arith, b.depth.low)) (twice c.depth))
      (inverse_point (omega (arith, b.depth.low)) (both c.space c.depth))

  -- of a square
  square_encloses : Encloses ((exactly (whole 1) −x exactly (inv (whole (power_of_two c)))) ÷x exactly (D c)) (ten 9)
      (per_metre (power_of_two c - 1) (power_of_two c * c.space))
  unfolding D
  square_encloses =
      encloses_same (share_same (whole 1) (inv (whole (power_of_two c))) (decimal_pos 3 space_pos))
      (encloses_point (share_point (power_bounds b).low space_pos))

  -- 1 less a pair in 10^−9, over D
  rest_encloses : {x : Exact} {i : Interval} → Consistent x → Encloses x (ten 9) i
      → Encloses ((exactly (whole 1) −x x) ÷x exactly (D c)) (ten 9)
      (quotient_of (difference_of (point (pos (10 ^ 9))) i) (point (pos c.space)) 1000)
  unfolding D ten
  rest_encloses k e =
      encloses_quotient (ten 9) 1000 refl (span_divisor (lit≤ tt) (space_span b)).0 (consistent_difference one.consistent k)
      (consistent_exactly (D c))
      (encloses_difference one.consistent k (encloses_whole 1 (ten 9) refl) e)
      (encloses_count (pos c.space) (ten 3) (decimal_over c.space 3))

  share_encloses : Encloses ((exactly (whole 1) −x half_power c) ÷x exactly (D c)) (ten 9) (share_ends c)
  unfolding half_power share_ends power_of_two
  share_encloses =
      by_both (λ x i. Encloses ((exactly (whole 1) −x x) ÷x exactly (D c)) (ten 9) i) (equal_counts c) (λ e. square_encloses)
      (λ e. rest_encloses (consistent_exp (consistent_minus (consistent_half_exponent b))) (half_encloses b e))

  pub factor_encloses : Encloses (Ks c) (ten 7) (ks_ends c)
  unfolding Ks ks_ends spacing_sum ten
  factor_encloses =
      let share = consistent_share b in
      encloses_quotient {u = ten 9} {v = ten 9} (ten 7) (10 ^ 7) refl (span_divisor (lit≤ tt) π_span).0
      (consistent_sum (consistent_exactly _) share) quantity_π.consistent
      (encloses_sum (consistent_exactly _) share (encloses_point depths_point) share_encloses) π_encloses
