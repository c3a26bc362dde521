-- Pairs that hold a value: what holds the parts of a formula, combined, holds the whole.
use Prim.Native.Nat.{ℕ, ◌≤◌}
use Rattle.exact.specs.{Fraction.{Fraction, ◌+f◌, ◌÷f◌}, Ends.{Ends, combine, ◌+e◌, ◌÷e◌}, Exact.{Exact, exactly, ◌+x◌, ◌÷x◌, Holds}}
use Rattle.exact.specs.Depth.{Consistent, Within, Proper, Positive, PositiveAt}
use Rattle.exact.proofs.{Order.{trans≤}, Points.{Point, Pointwise, sum_point, quotient_point}}
use Rattle.exact.proofs.Consistency.{Common, common, common_left, common_right, common_combine, proper_at}

pub holds_wider : {A B : Ends} {x : Exact} → Within A B → Holds A x → Holds B x
holds_wider w h = record { left = λ k d. trans≤ w.low (h.left k d); right = λ k d. trans≤ (h.right k d) w.high }

-- the ends at one depth, and so any wider pair, hold a consistent value
pub holds_depth : {x : Exact} {K : ℕ} {A : Ends} → Consistent x → 3 ≤ K → Within (x K) A → Holds A x
holds_depth {K = K} c d w = holds_wider w (record { left = λ k h. c.agree K k d h; right = λ k h. c.agree k K h d })

pub holds_exactly : {q : Fraction} {A : Ends} → Point q A → Holds A (exactly q)
unfolding exactly
holds_exactly p = record { left = λ k d. p.low; right = λ k d. p.high }

module _ {A B : Ends} {x y : Exact} (pa : Proper A) (pb : Proper B) (cx : Consistent x) (cy : Consistent y) (hx : Holds A x)
    (hy : Holds B y) where
  pub holds_combine : (op : Fraction → Fraction → Fraction) → Pointwise op A B → ((k : ℕ) → 3 ≤ k → Pointwise op (x k) (y k))
      → Holds (combine op A B) (λ k. combine op (x k) (y k))
  holds_combine op h hk = record { left = λ k d. common_left (at k d); right = λ k d. common_right (at k d) }
    where
      at : (k : ℕ) → 3 ≤ k → Common (combine op A B) (combine op (x k) (y k))
      at k d =
          common_combine op h (hk k d) (common pa (proper_at cx d) (hx.left k d) (hx.right k d))
          (common pb (proper_at cy d) (hy.left k d) (hy.right k d))

  pub holds_sum : Holds (A +e B) (x +x y)
  unfolding ◌+x◌ ◌+e◌
  holds_sum = holds_combine ◌+f◌ (sum_point A B) (λ k d. sum_point (x k) (y k))

  pub holds_quotient : Positive B → PositiveAt y → Holds (A ÷e B) (x ÷x y)
  unfolding ◌÷x◌ ◌÷e◌
  holds_quotient p q = holds_combine ◌÷f◌ (quotient_point A B p) (λ k d. quotient_point (x k) (y k) (q.at k d))
