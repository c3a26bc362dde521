-- The tolerable voltages' ends include the exact values' ends.
use Prim.Native.Nat.{ℕ, ◌+◌, ◌*◌, ◌^◌}
use mathlib.Core.{Path.{◌≡◌, refl}, Bool.{Bool, true, false, cond}}
use native.Mathlib.{Omega.{arith}, Nat.{zero-lt-suc}}
use lib.{Dec.{lit≤, eqb}, IntN.{pos}}
use Rattle.interval.{specs.Operations.{natural}, proofs.{Natural.{point_natural, natural_sum, natural_scaled}, Span.{span_divisor}}}
use Rattle.exact.specs.{Fraction.{Fraction, ◌≤f◌, ◌≈f◌, whole, decimal, ◌+f◌, ◌·f◌}, Exact.{exactly, ◌÷x◌}}
use Rattle.exact.{specs.Reported.{Scale, ten, over, reported}, proofs.{Order.{trans≤, refl≤, refl≈, sym≈, nonneg}, Sums.{mono+}}}
use Rattle.exact.proofs.{Products.{mul≤, mul_left≤, cong·}, Points.{Point}, Consistency.{consistent_exactly}}
use Rattle.enclosure.{specs.Enclosure.{Encloses}, proofs.{SquareRoot.{pair_ends}, Basics.{encloses_exactly, encloses_decimal}}}
use Rattle.enclosure.proofs.{Quotients.{encloses_quotient}, Roots.{encloses_sqrt_even}}
use Rattle.case.specs.{declared.Case.{Case}, Bounds.{Bounds}}
use Rattle.formulas.{specs.{Tolerable.{Q, k, root_time, tolerable_touch, tolerable_step}, Width.{m_v}}, proofs.Positive.{decimal_nonneg}}
use Rattle.formulas.proofs.Consistent.{quantity_root_time}
use Rattle.tolerable.specs.Ends.{body_factor, time_root, top_ends, tolerable_ends, touch_ends, step_ends}
use Rattle.tolerable.proofs.{Layer.{layer_span}, Surface.{layer_point}, Spans.{time_span}}

-- units of 1/2,000,000
half_micro : Scale
half_micro = record { count = 2000000; positive = zero-lt-suc 1999999 }

body_is : (c : Case) → k c ≈f decimal (body_factor c) 3
unfolding k body_factor
body_is c = go (eqb c.body 50)
  where
    go : (t : Bool) → cond t (decimal 116 3) (decimal 157 3) ≈f decimal (cond t 116 157) 3
    go true = record { to = refl≤ _; fro = refl≤ _ }
    go false = record { to = refl≤ _; fro = refl≤ _ }

-- (1000 + weight/2 · m/1000) · f/1000, counted in units of 1/2,000,000
module _ (share : Fraction) (weight : ℕ) where
  Counted : Type 0
  Counted = (m f : ℕ) → (whole 1000 +f share ·f over (pos m) (ten 3)) ·f decimal f 3 ≈f over (pos ((2000000 + m * weight) * f)) half_micro

touch_counted : Counted (decimal 15 1) 3
unfolding Counted whole decimal over ten half_micro ◌·f◌ ◌+f◌
touch_counted m f = omega arith

step_counted : Counted (whole 6) 12
unfolding Counted whole decimal over ten half_micro ◌·f◌ ◌+f◌
step_counted m f = omega arith

-- (1000 + share · q) · k grows with q
grows : (share : Fraction) {p q f g : Fraction} → whole 0 ≤f share → whole 0 ≤f f → p ≤f q → f ≈f g
    → (whole 1000 +f share ·f p) ·f f ≤f (whole 1000 +f share ·f q) ·f g
grows share n m h e = trans≤ (mul≤ m (mono+ (refl≤ (whole 1000)) (mul_left≤ n h))) (cong· (refl≈ _) e).to

module _ {c : Case} (b : Bounds c) where
  top_is : (weight : ℕ)
      → top_ends c weight
      ≡ natural ((2000000 + (layer_span b).a * weight) * body_factor c) ((2000000 + (layer_span b).b * weight) * body_factor c)
  unfolding top_ends
  top_is weight =
      let s = layer_span b in
      rw (s.is, natural_scaled s.a s.b weight, point_natural 2000000, natural_sum 2000000 2000000 (s.a * weight) (s.b * weight))
      (natural_scaled (2000000 + s.a * weight) (2000000 + s.b * weight) (body_factor c))

  Q_point : Point (Q c) (reported (ten 3) (natural (layer_span b).a (layer_span b).b))
  Q_point = rw (layer_span b).is at (layer_point b)

  top_encloses : (share : Fraction) (weight : ℕ) → whole 0 ≤f share → Counted share weight
      → Encloses (exactly ((whole 1000 +f share ·f Q c) ·f k c)) half_micro (top_ends c weight)
  unfolding Counted natural reported
  top_encloses share weight n counted =
      let s = layer_span b in
      let f = body_factor c in
      let e = body_is c in
      rw (top_is weight)
      (encloses_exactly
      (trans≤ (counted s.a f).fro (grows share n (decimal_nonneg f 3) Q_point.low (sym≈ e)))
      (trans≤ (grows share n (trans≤ (decimal_nonneg f 3) e.fro) Q_point.high e) (counted s.b f).to))

  pub time_encloses : Encloses (root_time c) (ten 8) (time_root c)
  unfolding root_time time_root ten
  time_encloses =
      encloses_sqrt_even (ten 8) {v = ten 3} c.shock (10 ^ 4) refl (omega arith) (pair_ends (c.shock * 10 ^ 13))
      (encloses_decimal c.shock 3 1 (ten 3) refl (omega arith))

  tolerable_encloses : (share : Fraction) (weight : ℕ) → whole 0 ≤f share → Counted share weight
      → Encloses (exactly ((whole 1000 +f share ·f Q c) ·f k c) ÷x root_time c) m_v (tolerable_ends c weight)
  unfolding tolerable_ends half_micro ten m_v
  tolerable_encloses share weight n counted =
      encloses_quotient m_v 50000 refl (span_divisor (lit≤ tt) (time_span b)).0 (consistent_exactly _) (quantity_root_time b).consistent
      (top_encloses share weight n counted) time_encloses

  pub touch_encloses : Encloses (tolerable_touch c) m_v (touch_ends c)
  unfolding tolerable_touch touch_ends
  touch_encloses = tolerable_encloses (decimal 15 1) 3 (decimal_nonneg 15 1) touch_counted

  pub step_encloses : Encloses (tolerable_step c) m_v (step_ends c)
  unfolding tolerable_step step_ends
  step_encloses = tolerable_encloses (whole 6) 12 (nonneg 6) step_counted
