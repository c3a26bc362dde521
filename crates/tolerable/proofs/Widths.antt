-- The tolerable voltages' ends are no further apart than §5.8 allows: 1/10,000 of the lower end plus 10 mV.
use Prim.Native.Nat.{ℕ, ◌+◌, ◌*◌, ◌/◌, ◌≤◌, ◌<◌}
use native.Mathlib.{Omega.{arith}, Nat.{mul-le-mul_left, mul-le-mul_right, le_trans, lt_of_mul-lt-mul_right, le_of_suc-le-suc}}
use lib.Dec.{lit≤}
use Rattle.whole.{specs.Whole.{ceil_div}, proofs.Rounding.{floor_div_above, ceil_div_below}}
use Rattle.interval.{specs.{Operations.{natural}, Span.{Relative}}, proofs.Natural.{natural_quotient}}
use Rattle.exact.specs.{Fraction.{decimal, ◌+f◌, neg, ◌−f◌, ◌·f◌}, Reported.{ten, over, reported, AtMost}}
use Rattle.case.specs.{declared.Case.{Case}, Bounds.{Bounds}}
use Rattle.formulas.specs.Width.{m_v, tolerable_width}
use Rattle.tolerable.specs.Ends.{tolerable_ends, touch_ends, step_ends}
use Rattle.tolerable.proofs.Spans.{top_span, time_span}

-- U c < b k + c, a k < (L + 1) d, with b at most 1884 above a, a from 232,000,000 and d at most 1 above c, c from 9,000,000
near : (a b c d k L U : ℕ) → b ≤ a + 1884 → 232000000 ≤ a → d ≤ c + 1 → 9000000 ≤ c → U * c < b * k + c → a * k < L * d + d
    → 10000 * U ≤ 10001 * L + 10000 * 10
near a b c d k L U p q r s u l =
    le_of_suc-le-suc
    (lt_of_mul-lt-mul_right (100 * c)
    (omega (arith, mul-le-mul_right k p, mul-le-mul_right k q, mul-le-mul_left L r, mul-le-mul_left L s, u, l)))

pub tolerable_near : {c : Case} → Bounds c → (weight : ℕ) → weight ≤ 12 → Relative (tolerable_ends c weight) 10000 10
unfolding tolerable_ends
tolerable_near {c} b weight h =
    let s = top_span b weight h in
    let t = time_span b in
    let p : 0 < t.a = le_trans (lit≤ tt) t.from in
    record {
      a = s.a * 50000 / t.b;
      b = ceil_div (s.b * 50000) t.a;
      is = rw (s.is, t.is) (natural_quotient s.a s.b 50000 p t.order);
      near =
          near s.a s.b t.a t.b 50000 _ _ s.near s.from t.near t.from (ceil_div_below (s.b * 50000) p)
          (floor_div_above (s.a * 50000) (le_trans p t.order));
    }

-- the width of §5.8 from the width in whole millivolts
within_allowed : (a b : ℕ) → 10000 * b ≤ 10001 * a + 10000 * 10
    → AtMost (tolerable_width (reported m_v (natural a b))) (reported m_v (natural a b))
unfolding tolerable_width reported m_v ten over natural decimal ◌·f◌ ◌+f◌ ◌−f◌ neg
within_allowed a b h = record { apart = record { le = omega arith } }

pub tolerable_narrow : {c : Case} → Bounds c → (weight : ℕ) → weight ≤ 12
    → AtMost (tolerable_width (reported m_v (tolerable_ends c weight))) (reported m_v (tolerable_ends c weight))
tolerable_narrow b weight h =
    let r = tolerable_near b weight h in
    rw r.is (within_allowed r.a r.b r.near)

module _ {c : Case} (b : Bounds c) where
  pub touch_narrow : AtMost (tolerable_width (reported m_v (touch_ends c))) (reported m_v (touch_ends c))
  unfolding touch_ends
  touch_narrow = tolerable_narrow b 3 (lit≤ tt)

  pub step_narrow : AtMost (tolerable_width (reported m_v (step_ends c))) (reported m_v (step_ends c))
  unfolding step_ends
  step_narrow = tolerable_narrow b 12 (lit≤ tt)
