-- Exact values. §5.1, §5.7: "At each depth k from 3 up, every formula has two ends that are fractions."
use Rattle.std.specs.Prelude.{ℕ, ◌≤◌}
use Rattle.exact.specs.{Fraction.{Fraction, ◌≤f◌, ◌<f◌}, Ends.{Ends, ◌+e◌, ◌−e◌, ◌·e◌, ◌÷e◌, minus_ends}}

-- the two ends at each depth
abbrev pub Exact : Type 0
Exact = ℕ → Ends

infixl 65 ◌+x◌ ◌−x◌
infixl 70 ◌·x◌ ◌÷x◌
-- a fraction is both its ends at every depth
unfoldable pub exactly : Fraction → Exact
exactly q k = record { lower = q; upper = q }

unfoldable pub ◌+x◌ : Exact → Exact → Exact
(x +x y) k = x k +e y k

unfoldable pub ◌−x◌ : Exact → Exact → Exact
(x −x y) k = x k −e y k

unfoldable pub ◌·x◌ : Exact → Exact → Exact
(x ·x y) k = x k ·e y k

unfoldable pub ◌÷x◌ : Exact → Exact → Exact
(x ÷x y) k = x k ÷e y k

unfoldable pub minus : Exact → Exact
minus x k = minus_ends (x k)

-- "A reported pair holds the exact value if, at every depth, its lower end is not above the depth's upper end and its upper end
-- not below the depth's lower end."
pub record Holds (A : Ends) (x : Exact) : Type 0 where
  pub left : (k : ℕ) → 3 ≤ k → A.lower ≤f (x k).upper
  pub right : (k : ℕ) → 3 ≤ k → (x k).lower ≤f A.upper

-- "One exact value is above another if at some depth its lower end is above the other's upper end"
pub record Above (x y : Exact) : Type 0 where
  pub depth : ℕ
  pub deep : 3 ≤ depth
  pub above : (y depth).upper <f (x depth).lower

-- "otherwise it is at or below."
abbrev pub AtOrBelow : Exact → Exact → Type 0
AtOrBelow x y = ¬ Above x y
