-- Sizes and widths of the exponent 2tf/Ta, of 2 over it, and of 1 − e^(−2tf/Ta).
use Prim.Native.Nat.{ℕ, ◌+◌, ◌-◌, ◌*◌, ◌/◌, ◌^◌, ◌≤◌, ◌<◌, min}
use mathlib.Core.Path.{◌≡◌, sym, ap, ◌∙◌}
use native.Mathlib.{Omega.{arith}, Nat.{mul-le-mul, mul-le-mul_right, le_of_suc-le-suc, lt_of_mul-lt-mul_right}}
use lib.{Dec.{lit≤, lit<}, IntN.{nat_abs}}
use Rattle.whole.{specs.Whole.{ceil_div}, proofs.Rounding.{floor_div_above, ceil_div_below, ceil_div_above, ceil_div_by}}
use Rattle.interval.specs.{declared.Interval.{Interval}, Operations.{natural, outward_of, scaled_of}, Span.{Span, Relative}, Wide.{Wide}}
use Rattle.interval.proofs.Natural.{point_natural, natural_difference, natural_scaled, natural_outward}
use Rattle.interval.proofs.{Span.{span_wider, span_scaled, span_outward, span_quotient}, Negated.{span_difference}}
use Rattle.interval.proofs.{Relatives.{relative_span}, WidePairs.{wide_fits}, Rules.{lits}, NumeralSpans.{numeral_point}}
use Rattle.enclosure.{specs.Pi.{π_below, π_above, π_ends}, proofs.Constants.{π_span}}
use Rattle.exponential.specs.Ends.{billion, large, halvings_of, end_of, gap_of, pair_of, near_ends, exp_pair}
use Rattle.exponential.proofs.{Sizes.{halvings_parts}, Span.{exp_span, exp_near_lem}}
use Rattle.case.specs.{declared.Case.{Case}, Bounds.{Between, Bounds}}
use Rattle.formulas.proofs.Decrement.{hz_bounds}
use Rattle.decrement.specs.Ends.{exponent_ends, ratio_ends, rest_ends}

-- the ends of a span, where they are known
ends_are : {i : Interval} {l h w : ℕ} (a b : ℕ) → i ≡ natural a b → (s : Span i l h w) → (s.a ≡ a) × (s.b ≡ b)
unfolding natural
ends_are a b e s = let f = sym s.is ∙ e in (ap (λ t. nat_abs t.lower) f, ap (λ t. nat_abs t.upper) f)

-- π's ends times k over d: at most 1/3141592653 of the lower end and 2 apart
exponent_near : (k d a b : ℕ) → b * d < π_above * k + d → π_below * k < a * d + d → π_below * b ≤ (π_below + 1) * a + π_below * 2
exponent_near k d a b u l = le_of_suc-le-suc (lt_of_mul-lt-mul_right d (omega (arith, u, l)))

outward_relative : (k : ℕ) {d : ℕ} → 0 < d → Relative (outward_of (scaled_of π_ends k) d) π_below 2
unfolding π_ends
outward_relative k {d} p =
    record {
      a = π_below * k / d;
      b = ceil_div (π_above * k) d;
      is = rw (natural_scaled π_below π_above k) (natural_outward (π_below * k) (π_above * k) p);
      near = exponent_near k d _ _ (ceil_div_below (π_above * k) p) (floor_div_above (π_below * k) p);
    }

pub scaled_span : (k : ℕ) → k ≤ 720000 → Span (scaled_of π_ends k) 0 2261946710880000 720000
scaled_span k h = span_wider (span_scaled k π_span) (omega arith) (omega arith) (omega arith)

-- 2·10^18 over a and over b are at most 207 apart
ratio_near : (a b : ℕ) → 141371669 ≤ a → π_below * b ≤ (π_below + 1) * a + π_below * 2 → (2 * (b - a) + b * 0) * 10 ^ 18 ≤ 206 * (a * a)
ratio_near a b h k =
    let w : 3 * billion * (b - a) ≤ 6 * billion + a = omega arith in
    apart (b - a) a w h (mul-le-mul_right a h)
  where
    apart : (w a : ℕ) → 3 * billion * w ≤ 6 * billion + a → 141371669 ≤ a → 141371669 * a ≤ a * a
        → (2 * w + b * 0) * 10 ^ 18 ≤ 206 * (a * a)
    apart w a h k l = omega arith

-- the width of e^−q, b − a + 3·2^j + 1, by a: p is 2^j
power_near : (a b p : ℕ) → π_below * b ≤ (π_below + 1) * a + π_below * 2 → p * billion ≤ 4 * b + billion
    → (b - a + 3 * p + 1) * billion ≤ 7 * billion + 13 * a
power_near a b p h k = omega (arith, h, k)

module _ {c : Case} (h : Bounds c) where
  pub turns_bounds : Between 450 (c.hz * c.clear) 180000
  turns_bounds = record { low = mul-le-mul (hz_bounds h).low h.clear.low; high = mul-le-mul (hz_bounds h).high h.clear.high }

  pub over_pos : 0 < 1000 * c.xr
  over_pos = omega (arith, h.xr.low)

  -- ---- the exponent

  pub exponent_span : Span (exponent_ends c) 141371669 2261946710880 721
  unfolding exponent_ends
  exponent_span =
      let t = turns_bounds in
      span_outward (1000 * c.xr) 141371669 2261946710880 720 over_pos (omega (arith, t.low, h.clear.low, h.xr.high))
      (omega (arith, t.high, h.clear.high, h.xr.low)) (omega (arith, t.high, h.clear.high, h.xr.low)) (span_scaled _ π_span)

  exponent_relative : Relative (exponent_ends c) π_below 2
  unfolding exponent_ends
  exponent_relative = outward_relative _ over_pos

  -- its ends
  pub exponent_low : ℕ
  exponent_low = exponent_span.a

  pub exponent_high : ℕ
  exponent_high = exponent_span.b

  pub low_from : 141371669 ≤ exponent_low
  unfolding exponent_low
  low_from = exponent_span.from

  pub low_to : exponent_low ≤ 2261946710880
  unfolding exponent_low
  low_to = let s = exponent_span in omega (arith, s.order, s.to)

  pub low_high : exponent_low ≤ exponent_high
  unfolding exponent_low exponent_high
  low_high = exponent_span.order

  pub ends_near : π_below * exponent_high ≤ (π_below + 1) * exponent_low + π_below * 2
  unfolding exponent_low exponent_high
  ends_near = relative_span exponent_span exponent_relative

  ends_span : Span (exponent_ends c) exponent_low exponent_high (exponent_high - exponent_low)
  unfolding exponent_low exponent_high
  ends_span =
      let s = exponent_span in
      record { a = s.a; b = s.b; is = s.is; from = omega arith; order = s.order; to = omega arith; near = omega (arith, s.order) }

  -- ---- 2 over it

  pub ratio_high : ℕ
  ratio_high = ceil_div (2 * 10 ^ 18) exponent_low

  low_pos : 0 < exponent_low
  low_pos = omega (arith, low_from)

  pub ratio_high_lem : ratio_high * exponent_low < 2 * 10 ^ 18 + exponent_low
  unfolding ratio_high
  ratio_high_lem = ceil_div_below (2 * 10 ^ 18) low_pos

  pub ratio_most : ratio_high ≤ 14147106094
  unfolding ratio_high
  ratio_most = ceil_div_by (2 * 10 ^ 18) low_pos (omega (arith, low_from))

  pub ratio_span : Span (ratio_ends c) 0 ratio_high 207
  unfolding ratio_ends ratio_high
  ratio_span =
      span_quotient (10 ^ 18) 0 ratio_high 206 low_pos (omega arith) (ceil_div_above (2 * 10 ^ 18) low_pos)
      (ratio_near exponent_low exponent_high low_from ends_near)
      (numeral_point 2 {l = 2} {h = 2} (lits tt)) ends_span

  -- ---- 1 − e^−q

  -- the width of e^−q
  pub power_width : ℕ
  power_width = exponent_high - exponent_low + 3 * 2 ^ halvings_of exponent_high + 1

  pub power_width_lem : power_width * billion ≤ 7 * billion + 13 * exponent_low
  unfolding power_width
  power_width_lem = power_near exponent_low exponent_high (2 ^ halvings_of exponent_high) ends_near (halvings_parts exponent_high)

  pub power_span : Span (exp_pair (exponent_ends c)) 0 billion power_width
  unfolding exp_pair natural power_width exponent_low exponent_high
  power_span =
      let s = exponent_span in
      rw s.is (exp_span s.a s.b)

  pub rest_span : Span (rest_ends c) 0 billion power_width
  unfolding rest_ends
  rest_span =
      span_wider (span_difference (lit≤ tt) (numeral_point billion {l = billion} {h = billion} (lits tt)) power_span) (omega arith)
      (omega arith)
      (omega arith)

  -- its upper end is 1 less the lower end of e^−q, by the terms where the exponent is below 22
  power_low : ℕ
  power_low = end_of 0 1 (halvings_of exponent_high) exponent_high / 4

  power_high : ℕ
  power_high =
      let j = halvings_of exponent_high in
      min ((end_of 0 1 j exponent_high + gap_of j exponent_low exponent_high) / 4 + 1) billion

  power_is : exponent_low < large → exp_pair (exponent_ends c) ≡ natural power_low power_high
  unfolding exp_pair near_ends pair_of natural exponent_low exponent_high power_low power_high
  power_is k = let s = exponent_span in rw (s.is, exp_near_lem s.a s.b k)

  pub rest_high : ℕ
  rest_high = rest_span.b

  pub rest_high_is : exponent_low < large → rest_high ≡ billion - end_of 0 1 (halvings_of exponent_high) exponent_high / 4
  unfolding rest_high rest_ends power_low
  rest_high_is k =
      let l = power_low in
      let u = power_high in
      let s = power_span in
      let below : u ≤ billion = rw (ends_are l u (power_is k) s).1 at s.to in
      let order : l ≤ u = rw ((ends_are l u (power_is k) s).0, (ends_are l u (power_is k) s).1) at s.order in
      let e : rest_ends c ≡ natural (billion - u) (billion - l)
      = rw (power_is k, point_natural billion) (natural_difference billion billion l u below (omega (arith, below, order))) in
      (ends_are (billion - u) (billion - l) e rest_span).1

  pub rest_high_span : Span (rest_ends c) 0 rest_high power_width
  unfolding rest_high
  rest_high_span =
      let s = rest_span in record { a = s.a; b = s.b; is = s.is; from = s.from; order = s.order; to = omega arith; near = s.near }

  pub rest_most : rest_high ≤ billion
  unfolding rest_high
  rest_most = rest_span.to

  -- ---- their product

  pub rest_ratio_wide : Wide (rest_ends c) (ratio_ends c) billion
  rest_ratio_wide = wide_fits billion 15 (lit< tt) (lit< tt) (omega (arith, ratio_most)) (lit< tt) rest_span ratio_span
