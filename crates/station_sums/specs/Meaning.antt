-- What §7.1 says of the summary, in its own words: proofs/StandsOnce.antt, Totals.antt and WorstSeason.antt show that it holds.
use Rattle.std.specs.Prelude.{ℕ, ◌+◌, ◌<◌}
use mathlib.Core.{Path.{◌≡◌}, List.{List, [], ◌∷◌}}
use lib.{IntN.{ℤ, pos, nat_abs}, ListN.{length, get_or}, Signed.{◌≤ℤ◌, ◌<ℤ◌}}
use Rattle.whole.specs.Count.{one}
use Rattle.row.specs.declared.Row.{Row}
use Rattle.station_sums.specs.Summary.{same_z}

-- how often a number stands in a list
unfoldable pub times : ℤ → List ℤ → ℕ
times x [] = 0
times x (y ∷ ys) = one (same_z y x) + times x ys

-- one of the six numbers of a station: 0 station, 1 seasons, 2 safe, 3 unsafe, 4 undecided, 5 season with the highest upper mesh end
abbrev pub number_of : ℕ → List ℤ → ℤ
number_of k station = get_or station k (pos 0)

-- the sum of one of the numbers over all stations
unfoldable pub total : ℕ → List (List ℤ) → ℕ
total k [] = 0
total k (station ∷ summary) = nat_abs (number_of k station) + total k summary

-- "The three counts add up to the seasons"
pub record CountsAddUp (station : List ℤ) : Type 0 where
  pub add_up : nat_abs (number_of 2 station) + nat_abs (number_of 3 station) + nat_abs (number_of 4 station) ≡ nat_abs (number_of 1 station)

-- of a station's rows, the one with index k has "the highest upper mesh end", and it is "the earlier line on a tie"
pub record HighestAt (rows : List Row) (none : Row) (k : ℕ) : Type 0 where
  pub within : k < length rows
  pub highest : (j : ℕ) → j < length rows → (get_or rows j none).mesh.upper ≤ℤ (get_or rows k none).mesh.upper
  pub earlier : (j : ℕ) → j < k → (get_or rows j none).mesh.upper <ℤ (get_or rows k none).mesh.upper

-- a season is that of such a row
pub record WorstSeason (rows : List Row) (none : Row) (season : ℤ) : Type 0 where
  pub line : ℕ
  pub highest_at : HighestAt rows none line
  pub season_is : season ≡ (get_or rows line none).season
