-- The span of an interval of natural numbers: bounds on its ends and on its width.
use Rattle.std.specs.Prelude.{ℕ, ◌+◌, ◌*◌, ◌≤◌, ◌≡◌}
use Rattle.interval.specs.{declared.Interval.{Interval}, Operations.{natural}}

-- i has natural ends, not below `low`, not above `high`, and at most `width` apart
pub record Span (i : Interval) (low high width : ℕ) : Type 0 where
  pub a : ℕ
  pub b : ℕ
  pub is : i ≡ natural a b
  pub from : low ≤ a
  pub order : a ≤ b
  pub to : b ≤ high
  pub near : b ≤ a + width

-- i has natural ends, at most 1/`per` of the lower end and `extra` apart
pub record Relative (i : Interval) (per extra : ℕ) : Type 0 where
  pub a : ℕ
  pub b : ℕ
  pub is : i ≡ natural a b
  pub near : per * b ≤ (per + 1) * a + per * extra
