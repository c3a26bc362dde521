-- Bounds on the ends of a value at every depth: lower ends not below a fraction, upper ends not above one, of roots, products and
-- quotients.
use Prim.Native.Nat.{ℕ, suc, ◌-◌, ◌*◌, ◌^◌, ◌≤◌, ◌<◌}
use mathlib.Core.Path.{◌≡◌, ap, ◌∙◌}
use native.Mathlib.{Omega.{arith}, Nat.{pow-suc}}
use lib.IntN.{pos}
use Rattle.exact.specs.{Fraction.{Fraction, ◌≤f◌, whole, ◌·f◌, ◌÷f◌, top}, Exact.{Exact, exactly, ◌·x◌, ◌÷x◌}, Root.{root}}
use Rattle.exact.specs.{Depth.{Consistent, PositiveAt}, Reported.{ten, over}}
use Rattle.exact.proofs.{Order.{trans≤}, Products.{mul_left≤}, Quotients.{mono÷}, Consistency.{proper_at}}
use Rattle.exact.proofs.{KnownEnds.{scaled_ends_lem, quotient_ends_lem}, RootDigits.{not_above_lower, upper_not_above}, Roots.{growing_root}}
use Rattle.exact.proofs.Positive.{positive_upper, AtLeast}

-- a value whose upper ends are all at most a
pub record NotAbove (a : Fraction) (x : Exact) : Type 0 where
  pub most : (k : ℕ) → 3 ≤ k → (x k).upper ≤f a

-- ---- products with a fraction and quotients

pub not_above_times : {a : Fraction} {x : Exact} (q : Fraction) → whole 0 ≤f q → Consistent x → NotAbove a x
    → NotAbove (q ·f a) (exactly q ·x x)
unfolding ◌·x◌
not_above_times q n c l = record { most = λ k d. trans≤ (scaled_ends_lem k n (proper_at c d)).uppers.to (mul_left≤ n (l.most k d)) }

pub at_least_quotient : {a b : Fraction} {x y : Exact} → whole 0 ≤f a → Consistent x → Consistent y → PositiveAt y → AtLeast a x
    → NotAbove b y → AtLeast (a ÷f b) (x ÷x y)
unfolding ◌÷x◌
at_least_quotient n cx cy p l m =
    record {
      least = λ k d.
          let low = l.least k d in
          trans≤ (mono÷ (trans≤ n low) (positive_upper (proper_at cy d) (p.at k d)) low (m.most k d))
          (quotient_ends_lem (proper_at cx d) (proper_at cy d) (trans≤ n low) (p.at k d)).lowers.fro;
    }

-- ---- roots, in thousandths

-- a depth's unit is a part of a thousandth
depth_thousands : (k : ℕ) → 3 ≤ k → (ten 3).count * 10 ^ (k - 3) ≡ 10 ^ k
unfolding ten
depth_thousands k d =
    let j = k - 3 in
    let e : suc (suc (suc j)) ≡ k = omega arith in
    let t : 10 ^ 3 * 10 ^ j ≡ 10 ^ suc (suc (suc j)) = rw (pow-suc 10 (suc (suc j)), pow-suc 10 (suc j), pow-suc 10 j) (omega arith) in
    t ∙ ap (λ i. 10 ^ i) e

module _ (n : ℕ) {x : Exact} (q : Fraction) (r : ℕ) (hn : 1 ≤ n) where
  pub at_least_root : r ^ n * q.den ≤ (ten 3).count ^ n * top q → AtLeast q x → AtLeast (over (pos r) (ten 3)) (root n x)
  unfolding root
  at_least_root h l =
      record {
        least = λ k d.
            trans≤ (not_above_lower n hn q (ten 3) r k (10 ^ (k - 3)) (depth_thousands k d) h)
            ((growing_root n hn).rises tt (l.least k d) k).lowers;
      }

  pub not_above_root : (ten 3).count ^ n * top q < r ^ n * q.den → NotAbove q x → NotAbove (over (pos r) (ten 3)) (root n x)
  unfolding root
  not_above_root h m =
      record {
        most = λ k d.
            trans≤ ((growing_root n hn).rises tt (m.most k d) k).uppers
            (upper_not_above n hn q (ten 3) r k (10 ^ (k - 3)) (depth_thousands k d) h);
      }
