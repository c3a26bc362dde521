-- When the product of two pairs over a divisor is computed within 64 bits.
use Rattle.std.specs.Prelude.{ℕ, ◌≤◌, ◌≡◌}
use Rattle.whole.specs.Wide.{WideFits}
use Rattle.interval.specs.{declared.Interval.{Interval}, Operations.{natural}}

-- two pairs of natural ends in order, whose upper ends may be multiplied so
pub record Wide (i j : Interval) (den : ℕ) : Type 0 where
  pub k : ℕ
  pub l : ℕ
  pub x : ℕ
  pub y : ℕ
  pub first : i ≡ natural k l
  pub second : j ≡ natural x y
  pub first_order : k ≤ l
  pub second_order : x ≤ y
  pub fits : WideFits l y den
