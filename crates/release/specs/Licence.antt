-- §7.2: the licence, a slice of 32-bit numbers, three an entry: a station, "its seasons as a number 1..15 (season i counts 2^(i−1))", and
-- "the conductor's own cross-section in whole kcmil, rounded down, 1..2000; 0 .. solid and round". Its refusals are 21 and 22.
use Rattle.std.specs.Prelude.{ℕ, suc, ◌%◌}
use mathlib.Core.{Bool.{Bool, false, cond, not, ◌&&◌, ◌||◌}, List.{List, [], ◌∷◌}}
use Rattle.std.specs.Prelude.{leb, ltb, eqb, Option, Some, None}

pub record Entry : Type 0 where
  pub station : ℕ
  pub seasons : ℕ
  pub area : ℕ

-- the entries of a licence, in its order
unfoldable pub entries_of : List ℕ → List Entry
entries_of [] = []
entries_of (a ∷ []) = []
entries_of (a ∷ b ∷ []) = []
entries_of (a ∷ b ∷ d ∷ numbers) = record { station = a; seasons = b; area = d } ∷ entries_of numbers

-- 21, 0, 0 when the count of numbers is 0, no multiple of three or above 768
unfoldable pub bad_count : ℕ → Bool
bad_count n = eqb n 0 || (not (eqb (n % 3) 0) || ltb 768 n)

unfoldable pub among : ℕ → List ℕ → Bool
among x [] = false
among x (y ∷ ys) = eqb y x || among x ys

-- "when its station is not in 1..65535 or stands in an earlier entry"
unfoldable pub wrong_station : List ℕ → ℕ → Bool
wrong_station earlier station = not (leb 1 station && leb station 65535) || among station earlier

-- "or its seasons are not in 1..15"
unfoldable pub wrong_seasons : ℕ → Bool
wrong_seasons seasons = not (leb 1 seasons && leb seasons 15)

-- "1..2000; 0 as today"
unfoldable pub wrong_area : ℕ → Bool
wrong_area area = ltb 2000 area

-- 22 with the first such entry's place from 1 as line: the station as column 1, the seasons as column 2, the cross-section as column 3,
-- after the stations of earlier entries
unfoldable pub first_wrong : List ℕ → ℕ → List Entry → Option (ℕ × ℕ)
first_wrong earlier place [] = None
first_wrong earlier place (p ∷ ps) =
    cond (wrong_station earlier p.station) (Some (place, 1))
    (cond (wrong_seasons p.seasons) (Some (place, 2))
    (cond (wrong_area p.area) (Some (place, 3)) (first_wrong (p.station ∷ earlier) (suc place) ps)))
