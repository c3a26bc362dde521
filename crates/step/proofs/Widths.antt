-- The step voltage's ends are no further apart than allowed: 1/100,000 of ρ·Ki·IG/LS, with Ki of na and IG its upper end, plus 10 mV.
use Prim.Native.Nat.{ℕ, ◌+◌, ◌*◌, ◌^◌, ◌≤◌, ◌<◌}
use native.Mathlib.{Omega.{arith}, Nat.{mul-le-mul_left, mul-le-mul_right}}
use lib.{Dec.{lit≤, lit<}, IntN.{pos}}
use Rattle.whole.proofs.{Choice.{pos≤}, Rounding.{floor_div_above, ceil_div_below}}
use Rattle.interval.{specs.Operations.{natural}, proofs.Natural.{natural_product}}
use Rattle.exact.specs.{Fraction.{◌≤f◌, decimal, ◌+f◌, neg, ◌−f◌, ◌·f◌, ◌÷f◌}, Reported.{ten, over, reported, AtMost}}
use Rattle.exact.proofs.{Order.{trans≤, refl≈}, Divisors.{cong÷}, Reported.{quotient_low}}
use Rattle.case.specs.{declared.Case.{Case}, Bounds.{Bounds}}
use Rattle.formulas.{specs.{Step.{LS}, Width.{m_v, μA, step_width}}, proofs.Positive.{decimal_nonneg, LS_pos}}
use Rattle.current.specs.Ends.{ig_ends}
use Rattle.drive.proofs.{Spans.{low}, Reference.{reference_width}}
use Rattle.step.specs.Ends.{step_voltage_ends}
use Rattle.step.proofs.FactorSpans.{factor_span}
use Rattle.step.proofs.Spans.{length_pos, driven_low, driven_high, driven_is, driven_order, driven_near, driven_below}
use Rattle.step.proofs.Enclosed.{length_is}

-- the products of the ends, rounded to L and U: b is at most 1/1,870,000 and 4 above a, d at most 4 above c and within 10^7
near : (a b c d L U : ℕ) → 1870000 * b ≤ 1870001 * a + 1870000 * 4 → d ≤ c + 4 → d ≤ 10000000 → a * c < L * 10000000 + 10000000
    → U * 10000000 < b * d + 10000000 → U * 10000000 ≤ L * 10000000 + 10 * a + 60000000
near a b c d L U p q r l u = omega (arith, mul-le-mul_right d p, mul-le-mul_left a q, mul-le-mul_left a r)

-- the same in volts
volts_near : (a L U : ℕ) → U * 10000000 ≤ L * 10000000 + 10 * a + 60000000
    → AtMost (decimal 10 7 ·f over (pos a) m_v +f decimal 6 3) (reported m_v (natural L U))
unfolding reported m_v ten over natural decimal ◌·f◌ ◌+f◌ ◌−f◌ neg
volts_near a L U h = record { apart = record { le = omega arith } }

-- 10/10^7 of 1.24 is within 1/100,000
share_less : decimal 10 7 ·f decimal 124 2 ≤f decimal 1 5
unfolding decimal ◌·f◌
share_less = record { le = lit≤ tt }

extra_less : decimal 6 3 ≤f decimal 10 3
unfolding decimal
extra_less = record { le = lit≤ tt }

module _ {c : Case} (b : Bounds c) where
  driven_low_lem : over (pos (driven_low b)) m_v ≤f over (pos (low b)) (ten 9) ÷f LS c
  unfolding m_v ten
  driven_low_lem =
      trans≤ (quotient_low (pos (low b)) (pos (driven_low b)) (length_pos b) (ten 9) (ten 6) (ten 3) (pos≤ (omega (arith, driven_below b))))
      (cong÷ (LS_pos b) (refl≈ _) (length_is c)).fro

  -- 10/10^7 of the lower end of ρ·Ki·IG/LS, and 6 mV
  step_near : AtMost (decimal 10 7 ·f over (pos (driven_low b)) m_v +f decimal 6 3) (reported m_v (step_voltage_ends c))
  unfolding step_voltage_ends
  step_near =
      let a = driven_low b in
      let h = driven_high b in
      let t = factor_span b in
      rw (driven_is b, t.is, natural_product (driven_order b) t.order {den = 10 ^ 7} (lit< tt))
      (volts_near a _ _
      (near a h t.a t.b _ _ (driven_near b) t.near t.to (floor_div_above (a * t.a) {d = 10 ^ 7} (lit< tt))
      (ceil_div_below (h * t.b) {d = 10 ^ 7} (lit< tt))))

  pub step_narrow : AtMost (step_width c (reported μA (ig_ends c))) (reported m_v (step_voltage_ends c))
  unfolding step_width
  step_narrow = reference_width b (LS c) (decimal_nonneg 10 7) share_less extra_less driven_low_lem step_near
