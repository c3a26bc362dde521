-- §7.1, "stations by first appearance": the stations of a table of rows, and the place of each row's station among them.
use Rattle.std.specs.Prelude.{ℕ, zero, suc, ◌*◌, ◌%◌, ◌≤◌, ◌<◌, Option, position}
use mathlib.Core.{Path.{◌≡◌}, List.{List, [], ◌∷◌}}
use lib.{IntN.{ℤ, pos, negsuc}, ListN.{get_or, take, length}}
use Rattle.judgement.specs.Limits.{most_lines}
use Rattle.row.specs.Row.{row_length}
use Rattle.station_sums.specs.Summary.{same_z, by_appearance}

-- the low sixteen bits of a station, which distinguish it from most others
unfoldable pub mark_of : ℤ → ℕ
mark_of (pos n) = n % 65536
mark_of (negsuc n) = 0

-- none of the first count marks is x
pub record NotMarked (marks : List ℕ) (count x : ℕ) : Type 0 where
  pub none : (k : ℕ) → k < count → get_or marks k 0 ≡ x → ⊥

-- the marks of the first count stations
pub record Marked (known : List ℤ) (marks : List ℕ) (count : ℕ) : Type 0 where
  pub room : count ≤ length marks
  pub marks_are : (k : ℕ) → k < count → get_or marks k 0 ≡ mark_of (get_or known k (pos 0))

-- the place of a station among some: the first at which it stands, or None where it is none of them
unfoldable pub place_of : ℤ → List ℤ → Option ℕ
place_of station known = position (same_z station) known

-- the station of row i of a table, its first number
abbrev pub station_at : List ℤ → ℕ → ℤ
station_at table i = get_or table (row_length * i) (pos 0)

-- the stations of count rows from row i on
unfoldable pub station_column : List ℤ → ℕ → ℕ → List ℤ
station_column table i zero = []
station_column table i (suc count) = station_at table i ∷ station_column table (suc i) count

-- the stations of n rows by first appearance, no two of them equal, and for each row the place of its station
pub record Places (table : List ℤ) (n : ℕ) (known : List ℤ) (places : List ℕ) (count : ℕ) : Type 0 where
  pub most : count ≤ n
  pub known_are : take count known ≡ by_appearance [] (station_column table 0 n)
  pub known_size : length known ≡ most_lines
  pub places_size : length places ≡ most_lines
  pub within : (i : ℕ) → i < n → get_or places i 0 < count
  pub own : (i : ℕ) → i < n → get_or known (get_or places i 0) (pos 0) ≡ station_at table i
  pub apart : (j k : ℕ) → j < count → k < count → get_or known j (pos 0) ≡ get_or known k (pos 0) → j ≡ k
