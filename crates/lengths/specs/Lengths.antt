-- The lengths of §4.1 in whole millimetres.
use Rattle.std.specs.Prelude.{ℕ, ◌+◌, ◌-◌, ◌*◌}
use Rattle.case.specs.declared.Case.{Case}

-- the side of a number of conductors at a distance
unfoldable pub side_of : ℕ → ℕ → ℕ
side_of count space = (count - 1) * space

module _ (c : Case) where
  -- Lx and Ly
  abbrev pub side_x : ℕ
  side_x = side_of c.across c.space

  abbrev pub side_y : ℕ
  side_y = side_of c.along c.space

  unfoldable pub lc_mm : ℕ
  lc_mm = c.across * side_y + c.along * side_x

  unfoldable pub lr_mm : ℕ
  lr_mm = c.rods * c.rodlen

  unfoldable pub lt_mm : ℕ
  lt_mm = lc_mm + lr_mm
