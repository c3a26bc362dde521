-- What follows from the limits (§9.1) for a list that is not refused.
use Rattle.std.specs.Prelude.{ℕ, ◌*◌, ◌/◌, ◌≤◌, List, [], ◌∷◌, length}
use Rattle.readings.specs.{Reading.{Reading, pairs_of}, Limits.{most_numbers, distances, resistances}}

-- the most pairs, and the most that a·R is, in mm times milliohms
abbrev pub most_pairs : ℕ
most_pairs = most_numbers / 2

abbrev pub most_product : ℕ
most_product = distances.high * resistances.high

-- a·R
unfoldable pub product : Reading → ℕ
product p = p.distance * p.resistance

-- of each pair
unfoldable pub Bounded : List Reading → Type 0
Bounded [] = Unit {0}
Bounded (p ∷ ps) = (product p ≤ most_product) × Bounded ps

-- one pair or more, none with a·R too large
pub record Taken (numbers : List ℕ) : Type 0 where
  pub some : 1 ≤ length (pairs_of numbers)
  pub few : length (pairs_of numbers) ≤ most_pairs
  pub bounded : Bounded (pairs_of numbers)
