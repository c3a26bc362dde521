-- The corners are in order with each of the four products of ends.
use lib.{IntN.{ℤ, ◌*ℤ◌}, Signed.{◌≤ℤ◌}}
use Rattle.whole.proofs.Choice.{≤ℤ_trans, min_left, min_right, max_left, max_right}
use Rattle.interval.specs.{Operations.{corners_of}, declared.Interval.{Interval}}

-- a property of each product: lower and lower, lower and upper, upper and lower, upper and upper
pub record Corners (P : ℤ → Type 0) (a b : Interval) : Type 0 where
  pub first : P (a.lower *ℤ b.lower)
  pub second : P (a.lower *ℤ b.upper)
  pub third : P (a.upper *ℤ b.lower)
  pub fourth : P (a.upper *ℤ b.upper)

module _ (a b : Interval) where
  pub corners_below : Corners (λ z. (corners_of a b).lower ≤ℤ z) a b
  unfolding corners_of
  corners_below =
      record {
        first = ≤ℤ_trans (min_left _ _) (min_left _ _);
        second = ≤ℤ_trans (min_left _ _) (min_right _ _);
        third = ≤ℤ_trans (min_right _ _) (min_left _ _);
        fourth = ≤ℤ_trans (min_right _ _) (min_right _ _);
      }

  pub corners_above : Corners (λ z. z ≤ℤ (corners_of a b).upper) a b
  unfolding corners_of
  corners_above =
      record {
        first = ≤ℤ_trans (max_left _ _) (max_left _ _);
        second = ≤ℤ_trans (max_right _ _) (max_left _ _);
        third = ≤ℤ_trans (max_left _ _) (max_right _ _);
        fourth = ≤ℤ_trans (max_right _ _) (max_right _ _);
      }
