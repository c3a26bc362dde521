-- Products: each product of ends is between the least and the greatest, and rounding outward keeps that.
use Prim.Native.Nat.{ℕ, ◌*◌}
use mathlib.Core.Path.{◌≡◌}
use lib.{Dec.{lit≤}, IntN.{ℤ, ◌*ℤ◌}, Signed.{◌≤ℤ◌}}
use Rattle.interval.{specs.{Operations.{corners_of, product_of}, declared.Interval.{Interval}}, proofs.Corners.{corners_below, corners_above}}
use Rattle.exact.specs.{Fraction.{◌≤f◌, ◌·f◌}, Ends.{◌·e◌}, Exact.{Exact, ◌·x◌}, Depth.{Consistent, Within}}
use Rattle.exact.{specs.Reported.{Scale, over, reported}, proofs.{Order.{trans≤}, Outcomes.{lower_of, upper_of}}}
use Rattle.exact.proofs.{Inclusion.{within_product, within_trans}, Reported.{scale_product, over≤, over_mul}}
use Rattle.enclosure.specs.Enclosure.{Encloses}
use Rattle.enclosure.proofs.Basics.{encloses_outward}

-- a number of the product's unit against a product of two counts
module _ (u v : Scale) {m : ℤ} (a b : ℤ) where
  low : m ≤ℤ (a *ℤ b) → over m (scale_product u v) ≤f over a u ·f over b v
  low h = trans≤ (over≤ (scale_product u v) h) (over_mul a b u v).to

  high : (a *ℤ b) ≤ℤ m → over a u ·f over b v ≤f over m (scale_product u v)
  high h = trans≤ (over_mul a b u v).fro (over≤ (scale_product u v) h)

corners_within : (u v : Scale) (a b : Interval) → Within (reported u a ·e reported v b) (reported (scale_product u v) (corners_of a b))
unfolding reported ◌·e◌
corners_within u v a b =
    let w = scale_product u v in
    let l = corners_below a b in
    let h = corners_above a b in
    record {
      low =
          lower_of ◌·f◌ (reported u a) (reported v b) (λ o. over (corners_of a b).lower w ≤f o)
          (record {
            first = low u v a.lower b.lower l.first;
            second = low u v a.lower b.upper l.second;
            third = low u v a.upper b.lower l.third;
            fourth = low u v a.upper b.upper l.fourth;
          });
      high =
          upper_of ◌·f◌ (reported u a) (reported v b) (λ o. o ≤f over (corners_of a b).upper w)
          (record {
            first = high u v a.lower b.lower h.first;
            second = high u v a.lower b.upper h.second;
            third = high u v a.upper b.lower h.third;
            fourth = high u v a.upper b.upper h.fourth;
          });
    }

-- a in u and b in v, divided by den, in w
pub encloses_product : {x y : Exact} {u v : Scale} (w : Scale) {a b : Interval} (den : ℕ) → w.count * den ≡ u.count * v.count
    → Consistent x → Consistent y → Encloses x u a → Encloses y v b → Encloses (x ·x y) w (product_of a b den)
unfolding product_of
encloses_product {u = u} {v} w {a} {b} den s cx cy ex ey =
    encloses_outward {u = scale_product u v} w den s
    (record { within = within_trans (within_product cx cy (lit≤ tt) ex.within ey.within) (corners_within u v a b) })
