-- §4.2: the ends of n and Ki, from the two counts alone, by whole numbers. These name the free part of the answers: callers use only their
-- laws.
use Rattle.std.specs.Prelude.{ℕ, ◌+◌, ◌*◌, ◌/◌, ◌^◌, cond}
use lib.{Dec.{eqb}, IntN.{pos}}
use Rattle.whole.specs.Whole.{ceil_div}
use Rattle.interval.specs.{declared.Interval.{Interval}, Operations.{natural, point, sum_of, scaled_of, outward_of}}
use Rattle.enclosure.specs.SquareRoot.{square_root}
use Rattle.effective_number.specs.Counts.{spacings, half_perimeter, meshes}

-- Lp/(4·√area) in 10^−9, from the root r of the meshes in 10^−8
abbrev pub ratio_low : ℕ → ℕ → ℕ
ratio_low half r = half * 10 ^ 17 / (2 * (r + 1))

abbrev pub ratio_high : ℕ → ℕ → ℕ
ratio_high half r = ceil_div (half * 10 ^ 17) (2 * r)

module _ (a b : ℕ) where
  -- √meshes in 10^−8, rounded down
  unfoldable pub mesh_root : ℕ
  mesh_root = square_root (meshes a b * 10 ^ 16)

  -- nb in 10^−9
  unfoldable pub nb_ends : Interval
  nb_ends =
      natural (square_root (ratio_low (half_perimeter a b) mesh_root * 10 ^ 9))
      (square_root (ratio_high (half_perimeter a b) mesh_root * 10 ^ 9) + 1)

  -- na·nb in 10^−7
  unfoldable pub product_ends : Interval
  product_ends = outward_of (scaled_of nb_ends (spacings a b)) (100 * half_perimeter a b)

  -- n in 10^−7: of a square its count
  unfoldable pub n_ends : Interval
  n_ends = cond (eqb a b) (point (pos (a * 10 ^ 7))) product_ends

-- Ki in 10^−10
unfoldable pub ki_ends : Interval → Interval
ki_ends n = sum_of (point (pos 6440000000)) (scaled_of n 148)
