-- The grid current: where its ends lie, how far they are apart, and what they enclose.
use Prim.Native.Nat.{ℕ, ◌+◌, ◌*◌, ◌/◌, ◌^◌, ◌≤◌, ◌<◌}
use mathlib.Core.Path.{refl}
use native.Mathlib.{Omega.{arith}, Nat.{mul-le-mul, mul-le-mul_right}}
use lib.{Dec.{lit<}, IntN.{pos}}
use Rattle.whole.{specs.Whole.{ceil_div}, proofs.Rounding.{floor_div_above, ceil_div_below}}
use Rattle.interval.{specs.{Operations.{natural, scaled_of}, Span.{Span, Relative}}, proofs.Natural.{natural_scaled, natural_outward}}
use Rattle.interval.proofs.{Span.{span_wider, span_scaled}, Rules.{lits}, NumeralSpans.{numeral_outward}}
use Rattle.exact.specs.{Fraction.{◌≈f◌, whole, decimal, ◌+f◌, neg, ◌−f◌, ◌·f◌}, Reported.{ten, over, reported, AtMost, Reports}}
use Rattle.enclosure.{specs.Enclosure.{Encloses}, proofs.{Basics.{encloses_outward}, Multiples.{encloses_multiple}, Reporting.{reports}}}
use Rattle.case.specs.{declared.Case.{Case}, Bounds.{Between, Bounds}}
use Rattle.formulas.{specs.{Current.{IG}, Width.{μA, billionths, current_width}}, proofs.Decrement.{consistent-Df}}
use Rattle.formulas.proofs.Quantities.{quantity_IG}
use Rattle.decrement.{specs.Ends.{df_ends}, proofs.{Widths.{factor_span}, Right.{encloses-Df}}}
use Rattle.current.specs.Ends.{ig_ends, upper_factor}

-- a to b, from 10^9 and at most 500 apart, times k over 10^6 and rounded to L and U
near : (k a b L U : ℕ) → b ≤ a + 500 → 1000000000 ≤ a → U * 10 ^ 6 < b * k + 10 ^ 6 → a * k < L * 10 ^ 6 + 10 ^ 6
    → 2000000 * U ≤ 2000001 * L + 2000000 * 2
near k a b L U h p u l = omega (arith, mul-le-mul_right k h, mul-le-mul_right k p, u, l)

-- 1/2,000,000 and 2 are within 1/500,000 and 2
within_allowed : (a b : ℕ) → 2000000 * b ≤ 2000001 * a + 2000000 * 2
    → AtMost (current_width (reported μA (natural a b))) (reported μA (natural a b))
unfolding current_width reported μA ten over natural decimal ◌·f◌ ◌+f◌ ◌−f◌ neg
within_allowed a b h = record { apart = record { le = omega arith } }

-- fault·split
entering_is : (f s : ℕ) → whole f ·f decimal s 3 ≈f over (pos (f * s)) (ten 3)
unfolding whole decimal over ten ◌·f◌
entering_is f s = omega arith

module _ {c : Case} (b : Bounds c) where
  -- the factor's upper end, from 1 to √5
  pub upper_bounds : Between 1000000000 (upper_factor c) 2236068000
  unfolding natural
  upper_bounds =
      let s = factor_span b in
      rw s.is (record { low = omega (arith, s.from, s.order); high = s.to })

  pub entering_bounds : Between 100 (c.fault * c.split) 80000000
  entering_bounds = record { low = mul-le-mul b.fault.low b.split.low; high = mul-le-mul b.fault.high b.split.high }

  pub entering_span : Span (scaled_of (df_ends c) (c.fault * c.split)) 100000000000 178885440000000000 40000000000
  entering_span =
      let k = entering_bounds in
      span_wider (span_scaled (c.fault * c.split) (factor_span b)) (omega (arith, k.low)) (omega (arith, k.high))
      (omega (arith, k.high))

  pub current_encloses : Encloses (IG c) μA (ig_ends c)
  unfolding IG ig_ends μA billionths ten
  current_encloses =
      encloses_outward {u = ten 12} (ten 6) (10 ^ 6) refl
      (encloses_multiple (c.fault * c.split) (ten 3) (ten 12) refl (entering_is c.fault c.split) (consistent-Df b) (encloses-Df b))

  -- from 0.1 A to 178,885.44 A
  pub current_span : Span (ig_ends c) 100000 178885440000 40001
  unfolding ig_ends
  current_span = numeral_outward (10 ^ 6) 100000 178885440000 40000 (lits tt) entering_span

  -- the ends are at most 1/2,000,000 of the lower end and 2 apart
  pub current_relative : Relative (ig_ends c) 2000000 2
  unfolding ig_ends
  current_relative =
      let s = factor_span b in
      let k = c.fault * c.split in
      record {
        a = s.a * k / 10 ^ 6;
        b = ceil_div (s.b * k) (10 ^ 6);
        is = rw (s.is, natural_scaled s.a s.b k) (natural_outward (s.a * k) (s.b * k) (lit< tt));
        near = near k s.a s.b _ _ s.near s.from (ceil_div_below (s.b * k) (lit< tt)) (floor_div_above (s.a * k) (lit< tt));
      }

  pub current_reports : Reports (IG c) μA current_width (ig_ends c)
  current_reports =
      let r = current_relative in
      reports current_width (quantity_IG b).consistent current_encloses (rw r.is (within_allowed r.a r.b r.near))
