-- Quotients by an interval above 0: each quotient of ends is between the least and the greatest, rounded outward.
use Prim.Native.Nat.{ℕ, ◌*◌, ◌<◌}
use mathlib.Core.Path.{◌≡◌, sym, ap, ◌∙◌, subst}
use native.Mathlib.{Omega.{arith}, Nat.{mul-le-mul_right}}
use lib.{Dec.{lit≤}, IntN.{ℤ, pos, nat_abs, ◌*ℤ◌}, Signed.{◌≤ℤ◌, ◌<ℤ◌, pos-nat_abs}}
use Rattle.whole.specs.{Signed.{plus, minus}, Whole.{floor_z, ceil_z}}
use Rattle.whole.proofs.{Signed.{scale_plus, scale_minus, le_halves, halves_le, halves_lt, floor_below}, Rounding.{ceil_above}}
use Rattle.whole.proofs.Choice.{≤ℤ_trans, min_left, min_right, max_left, max_right}
use Rattle.interval.specs.{Operations.{quotient_of, hull_of, outward_of, scaled_of}, declared.Interval.{Interval}}
use Rattle.interval.proofs.Sizes.{size_positive, positive_natural}
use Rattle.exact.specs.{Fraction.{◌≤f◌, ◌÷f◌}, Ends.{◌÷e◌}, Exact.{Exact, ◌÷x◌}, Depth.{Consistent, Within}}
use Rattle.exact.{specs.Reported.{Scale, over, reported}, proofs.{Order.{trans≤}, Quotients.{div≤}, Outcomes.{lower_of, upper_of}}}
use Rattle.exact.proofs.{Inclusion.{within_quotient, within_trans}, Reported.{over≤, quotient_low, quotient_high, reported_positive}}
use Rattle.enclosure.specs.Enclosure.{Encloses}
use Rattle.enclosure.proofs.Basics.{encloses_ordered}

-- z of u over c of v, in w: k · z over c, rounded down and up
module _ (z : ℤ) (k : ℕ) {c : ℕ} (hc : 0 < c) (u v w : Scale) (s : k * u.count ≡ v.count * w.count) where
  -- z · v · w is z · k · u
  crossed : (n m : ℕ) → m ≡ n * v.count → m * w.count ≡ n * k * u.count
  crossed n m e = omega (arith, ap (λ t. n * t) s, ap (λ t. t * w.count) e)

  dividend : (plus ((z *ℤ pos v.count) *ℤ pos w.count) ≡ plus (z *ℤ pos k) * u.count)
      × (minus ((z *ℤ pos v.count) *ℤ pos w.count) ≡ minus (z *ℤ pos k) * u.count)
  dividend = (
    scale_plus (z *ℤ pos v.count) w.count ∙ crossed (plus z) _ (scale_plus z v.count) ∙ ap (λ t. t * u.count)
        (sym (scale_plus z k)),
    scale_minus (z *ℤ pos v.count) w.count ∙ crossed (minus z) _ (scale_minus z v.count) ∙ ap (λ t. t * u.count)
        (sym (scale_minus z k)),
  )

  rounded_low : over (floor_z (z *ℤ pos k) c) w ≤f over z u ÷f over (pos c) v
  rounded_low =
      let f : ℤ = floor_z (z *ℤ pos k) c in
      let below = mul-le-mul_right u.count (floor_below (z *ℤ pos k) hc) in
      quotient_low z f hc u v w
      (halves_le _ _ (omega (arith, below, dividend, scale_plus f (u.count * c), scale_minus f (u.count * c))))

  rounded_high : over z u ÷f over (pos c) v ≤f over (ceil_z (z *ℤ pos k) c) w
  rounded_high =
      let f : ℤ = ceil_z (z *ℤ pos k) c in
      let above = mul-le-mul_right u.count (ceil_above (z *ℤ pos k) hc) in
      quotient_high z f hc u v w
      (halves_le _ _ (omega (arith, above, dividend, scale_plus f (u.count * c), scale_minus f (u.count * c))))

-- the same by a signed divisor d that is above 0, wherever the rounded number stands
module _ (z : ℤ) (k : ℕ) {d : ℤ} (p : pos 1 ≤ℤ d) (u v w : Scale) (s : k * u.count ≡ v.count * w.count) {m : ℤ} where
  low : m ≤ℤ floor_z (z *ℤ pos k) (nat_abs d) → over m w ≤f over z u ÷f over d v
  low h =
      subst (λ e. over m w ≤f over z u ÷f over e v) (pos-nat_abs d (positive_natural p))
      (trans≤ (over≤ w h) (rounded_low z k (size_positive p) u v w s))

  high : ceil_z (z *ℤ pos k) (nat_abs d) ≤ℤ m → over z u ÷f over d v ≤f over m w
  high h =
      subst (λ e. over z u ÷f over e v ≤f over m w) (pos-nat_abs d (positive_natural p))
      (trans≤ (rounded_high z k (size_positive p) u v w s) (over≤ w h))

module _ (u v w : Scale) (a b : Interval) (k : ℕ) (s : k * u.count ≡ v.count * w.count)
    (pl : pos 1 ≤ℤ b.lower) (ob : b.lower ≤ℤ b.upper) (oa : a.lower ≤ℤ a.upper) where
  quotient_within : Within (reported u a ÷e reported v b) (reported w (quotient_of a b k))
  unfolding reported ◌÷e◌ quotient_of hull_of outward_of scaled_of
  quotient_within =
      let pu = ≤ℤ_trans pl ob in
      let q = quotient_of a b k in
      let ll = low a.lower k pl u v w s (min_left _ _) in
      let lu = low a.lower k pu u v w s (min_right _ _) in
      let hl = high a.upper k pl u v w s (max_left _ _) in
      let hu = high a.upper k pu u v w s (max_right _ _) in
      let rises = over≤ u oa in
      record {
        low =
            lower_of ◌÷f◌ (reported u a) (reported v b) (λ o. over q.lower w ≤f o)
            (record { first = ll; second = lu; third = trans≤ ll (div≤ _ rises); fourth = trans≤ lu (div≤ _ rises) });
        high =
            upper_of ◌÷f◌ (reported u a) (reported v b) (λ o. o ≤f over q.upper w)
            (record { first = trans≤ (div≤ _ rises) hl; second = trans≤ (div≤ _ rises) hu; third = hl; fourth = hu });
      }

one_positive : {z : ℤ} → pos 1 ≤ℤ z → pos 0 <ℤ z
one_positive {z} h = halves_lt (pos 0) z (omega (arith, le_halves h))

-- a in u times k, over b in v, in w
pub encloses_quotient : {x y : Exact} {u v : Scale} (w : Scale) {a b : Interval} (k : ℕ) → k * u.count ≡ v.count * w.count
    → pos 1 ≤ℤ b.lower → Consistent x → Consistent y → Encloses x u a → Encloses y v b → Encloses (x ÷x y) w (quotient_of a b k)
encloses_quotient {u = u} {v} w {a} {b} k s p cx cy ex ey =
    record {
      within =
          within_trans (within_quotient cx cy (lit≤ tt) ex.within ey.within (reported_positive b v (one_positive p)))
          (quotient_within u v w a b k s p (encloses_ordered cy ey) (encloses_ordered cx ex));
    }
