-- The two ends of a value (§5.1) come together: from one depth to the next the allowance halves. With consistency this makes an exact value
-- one number.
use Rattle.std.specs.Prelude.{ℕ, ◌^◌, ◌≤◌}
use Rattle.exact.specs.{Fraction.{Fraction, ◌≤f◌, whole, ◌+f◌, ◌÷f◌}, Exact.{Exact}, Depth.{Consistent}}

-- b is at most w above a
pub record Near (w a b : Fraction) : Type 0 where
  pub near : b ≤f a +f w

-- at depth k the upper end is at most rate / 2^k above the lower end
pub record Narrows (x : Exact) : Type 0 where
  pub rate : ℕ
  pub narrow : (k : ℕ) → 3 ≤ k → Near (whole rate ÷f whole (2 ^ k)) (x k).lower (x k).upper

-- a value is one number: its depths do not contradict each other, and its ends come together
pub record Number (x : Exact) : Type 0 where
  pub consistent : Consistent x
  pub narrows : Narrows x
