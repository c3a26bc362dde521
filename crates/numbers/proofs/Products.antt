-- A consistent value whose ends come together is bounded, and the ends of products come together.
use Prim.Native.Nat.{ℕ, ◌+◌, ◌≤◌}
use native.Mathlib.Omega.{arith}
use Rattle.exact.specs.{Fraction.{Fraction, ◌≤f◌, whole, ◌+f◌, neg, ◌·f◌}, Ends.{Ends, ◌·e◌}, Exact.{Exact, ◌·x◌}}
use Rattle.exact.{specs.Depth.{Consistent, Proper}, proofs.{Order.{refl≤, trans≤, whole≤}, Sums.{mono+, neg≤}}}
use Rattle.exact.proofs.{Products.{mul_assoc, add_mul}, Points.{Point}, Consistency.{proper_at}}
use Rattle.numbers.specs.Number.{Near, Narrows}
use Rattle.numbers.proofs.Near.{whole_above, near_more, near_between, near_neg, near_product, Size}
use Rattle.numbers.proofs.{Units.{units_nonneg, units_high}, Narrow.{narrow_at, narrows_by, points_close, combine_narrow}}

-- both ends are at most M from 0
pub record Bounded (M : Fraction) (A : Ends) : Type 0 where
  pub high : A.upper ≤f M
  pub low : neg A.lower ≤f M

point_size : {M p : Fraction} {A : Ends} → Bounded M A → Point p A → Size M p
point_size b p = record { high = trans≤ p.high b.high; low = trans≤ (neg≤ p.low) b.low }

pub product_narrow : {A B : Ends} {v w M N : Fraction} → Proper A → Proper B → Near v A.lower A.upper → Near w B.lower B.upper
    → whole 0 ≤f v → whole 0 ≤f w → Bounded M A → Bounded N B → Near (M ·f w +f N ·f v) (A ·e B).lower (A ·e B).upper
unfolding ◌·e◌
product_narrow pa pb h k nv nw s t =
    combine_narrow ◌·f◌ pa pb
    (λ _ _ _ _ a a' b b'. near_product nv nw (points_close h a a') (points_close k b b') (point_size s a) (point_size t b'))

-- a value whose ends are at most `bound` from 0 at every depth
pub record BoundedAt (x : Exact) : Type 0 where
  pub bound : ℕ
  pub ends : (k : ℕ) → 3 ≤ k → Bounded (whole bound) (x k)

-- the ends at depth 3, and what the others can differ from them
pub bounded_at : {x : Exact} → Consistent x → Narrows x → BoundedAt x
bounded_at {x} c n =
    let w = whole n.rate in
    let most = (x 3).upper +f w in
    let least = neg (x 3).lower +f w in
    let d : 3 ≤ 3 = omega arith in
    record {
      bound = most.plus + least.plus;
      ends = λ k h.
          let l : Near w (x k).lower (x k).upper = near_more (narrow_at n h) (units_high n.rate k) in
          record {
            high = trans≤ (near_between l (c.agree k 3 h d) (refl≤ _)).near (trans≤ (whole_above most) (whole≤ (omega arith)));
            low =
                trans≤ (near_between (near_neg l) (neg≤ (c.agree 3 k d h)) (refl≤ _)).near
                (trans≤ (whole_above least) (whole≤ (omega arith)));
          };
    }

module _ {x y : Exact} (cx : Consistent x) (cy : Consistent y) (nx : Narrows x) (ny : Narrows y) where
  pub narrows_product : Narrows (x ·x y)
  unfolding ◌·x◌
  narrows_product =
      let bx = bounded_at cx nx in
      let by = bounded_at cy ny in
      narrows_by (whole bx.bound ·f whole ny.rate +f whole by.bound ·f whole nx.rate)
      (λ k d.
      near_more
      (product_narrow (proper_at cx d) (proper_at cy d) (narrow_at nx d) (narrow_at ny d) (units_nonneg nx.rate k)
      (units_nonneg ny.rate k) (bx.ends k d) (by.ends k d))
      (trans≤ (mono+ (mul_assoc _ _ _).fro (mul_assoc _ _ _).fro) (add_mul _ _ _).fro))
