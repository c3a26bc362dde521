-- §5.3: the ends of a square root in whole numbers: the greatest whole number whose square is not above x, and the next one.
use Rattle.std.specs.Prelude.{ℕ, ◌+◌, ◌*◌, ◌≤◌, ◌<◌, ◌≡◌}
use Rattle.interval.specs.{declared.Interval.{Interval}, Operations.{natural}}

pub record IsRoot (x r : ℕ) : Type 0 where
  pub low : r * r ≤ x
  pub high : x < (r + 1) * (r + 1)

-- a guess that is the root of x or above it
pub record NotBelow (x r : ℕ) : Type 0 where
  pub high : x < (r + 1) * (r + 1)
  pub small : r < 4294967296

-- the pair of a root and the next number
pub record RootEnds (x : ℕ) (a : Interval) : Type 0 where
  pub root : ℕ
  pub is_root_lem : IsRoot x root
  pub ends : a ≡ natural root (root + 1)
