-- Which of two exact values is above, by pairs: these two laws need nothing of any grid.
use Prim.Native.Nat.{ℕ, ◌≤◌}
use Rattle.exact.specs.{Fraction.{◌≤f◌, ◌<f◌}, Ends.{Ends}, Exact.{Exact, Holds, Above, AtOrBelow}, Depth.{Within}}
use Rattle.exact.proofs.Order.{trans≤, lt_of_lt_of_le, lt_of_le_of_lt, not<}

-- the pair that holds x is not above the pair that holds y
pub at_or_below : {A B : Ends} {x y : Exact} → Holds A x → Holds B y → A.upper ≤f B.lower → AtOrBelow x y
at_or_below hx hy l a = not< a.above (trans≤ (hx.right a.depth a.deep) (trans≤ l (hy.left a.depth a.deep)))

-- at one depth, the pair around x is wholly above the pair around y
pub above : {x y : Exact} {K : ℕ} {A B : Ends} → 3 ≤ K → Within (x K) A → Within (y K) B → B.upper <f A.lower → Above x y
above {K = K} d wx wy l = record { depth = K; deep = d; above = lt_of_lt_of_le (lt_of_le_of_lt wy.high l) wx.low }
