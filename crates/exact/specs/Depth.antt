-- §5.1: what the laws say of ends and depths.
use Rattle.std.specs.Prelude.{ℕ, ◌≤◌}
use Rattle.exact.specs.{Fraction.{◌≤f◌, ◌<f◌, ◌≈f◌, whole}, Ends.{Ends}, Exact.{Exact}}

-- the depth at which the code computes
abbrev pub work_depth : ℕ
work_depth = 12

-- the depths of one value do not contradict each other
pub record Consistent (x : Exact) : Type 0 where
  pub agree : (j k : ℕ) → 3 ≤ j → 3 ≤ k → (x j).lower ≤f (x k).upper

-- A lies within B
pub record Within (A B : Ends) : Type 0 where
  pub low : B.lower ≤f A.lower
  pub high : A.upper ≤f B.upper

-- the lower end is not above the upper
pub record Proper (A : Ends) : Type 0 where
  pub proper : A.lower ≤f A.upper

-- both ends are above 0
pub record Positive (A : Ends) : Type 0 where
  pub positive : whole 0 <f A.lower

-- at every depth, so that one may divide by the value
pub record PositiveAt (x : Exact) : Type 0 where
  pub at : (k : ℕ) → 3 ≤ k → Positive (x k)

-- two pairs with ends of one value
pub record SameEnds (A B : Ends) : Type 0 where
  pub lowers : A.lower ≈f B.lower
  pub uppers : A.upper ≈f B.upper
