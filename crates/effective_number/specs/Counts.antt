-- §4.1: the two counts of conductors, across and along, and what they give in units of the spacing D.
use Rattle.std.specs.Prelude.{ℕ, ◌+◌, ◌-◌, ◌*◌}
use Rattle.case.specs.Bounds.{Between}

-- "each 2..25"
pub record Counts (a b : ℕ) : Type 0 where
  pub across : Between 2 a 25
  pub along : Between 2 b 25

module _ (a b : ℕ) where
  -- Lc / D
  unfoldable pub spacings : ℕ
  spacings = a * (b - 1) + b * (a - 1)

  -- Lp / 2D
  unfoldable pub half_perimeter : ℕ
  half_perimeter = (a - 1) + (b - 1)

  -- area / D²
  unfoldable pub meshes : ℕ
  meshes = (a - 1) * (b - 1)
