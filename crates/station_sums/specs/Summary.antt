-- The summary of some rows. §7.1: "a table beside the rows with six numbers a station, stations by first appearance: station, count of
-- seasons, counts of safe, unsafe and undecided, and the season with the highest upper mesh end, the earlier line on a tie."
use Rattle.std.specs.Prelude.{ℕ, ◌+◌}
use mathlib.Core.{Bool.{Bool, false, cond, ◌||◌}, List.{List, [], ◌∷◌, ◌++◌, map}}
use lib.{Dec.{eqb}, IntN.{ℤ, pos, negsuc}, ListN.{length, drop}, Signed.{lt_z}}
use Rattle.whole.specs.Count.{one}
use Rattle.decision.specs.{declared.Verdict.{Verdict, TheVariants.{Safe, Unsafe, Undecided}}, Verdict.{verdict_number}}
use Rattle.row.specs.declared.Row.{Row}

-- two signed numbers are equal
unfoldable pub same_z : ℤ → ℤ → Bool
same_z (pos m) (pos n) = eqb m n
same_z (pos m) (negsuc n) = false
same_z (negsuc m) (pos n) = false
same_z (negsuc m) (negsuc n) = eqb m n

-- ---- "stations by first appearance"

unfoldable pub among : ℤ → List ℤ → Bool
among x [] = false
among x (y ∷ ys) = same_z x y || among x ys

-- the numbers found so far, and after them those of further ones that are new
unfoldable pub by_appearance : List ℤ → List ℤ → List ℤ
by_appearance found [] = found
by_appearance found (x ∷ xs) = by_appearance (cond (among x found) found (found ++ (x ∷ []))) xs

-- the station of each row
abbrev pub stations_of : List Row → List ℤ
stations_of rows = map (λ r. r.station) rows

unfoldable pub stations : List Row → List ℤ
stations rows = by_appearance [] (stations_of rows)

-- ---- the six numbers of a station

-- the rows of a station, in their order
unfoldable pub rows_of : ℤ → List Row → List Row
rows_of station [] = []
rows_of station (r ∷ rs) = cond (same_z station r.station) (r ∷ rows_of station rs) (rows_of station rs)

-- how many of some rows have a verdict
unfoldable pub count_of : Verdict → List Row → ℕ
count_of v [] = 0
count_of v (r ∷ rs) = one (eqb (verdict_number r.verdict) (verdict_number v)) + count_of v rs

-- of two rows the one with the higher upper mesh end, "the earlier line on a tie"
unfoldable pub higher : Row → Row → Row
higher r s = cond (lt_z r.mesh.upper s.mesh.upper) s r

unfoldable pub highest : Row → List Row → Row
highest r [] = r
highest r (s ∷ rs) = highest (higher r s) rs

-- "the season with the highest upper mesh end"; a station has at least one row
unfoldable pub worst_season : List Row → ℤ
worst_season [] = pos 0
worst_season (r ∷ rs) = (highest r rs).season

-- "six numbers a station"
abbrev pub station_length : ℕ
station_length = 6

-- the six numbers of a station with these rows
unfoldable pub station_numbers : ℤ → List Row → List ℤ
station_numbers station rows =
    station ∷ pos (length rows) ∷ pos (count_of Safe rows) ∷ pos (count_of Unsafe rows) ∷ pos (count_of Undecided rows) ∷ worst_season rows ∷ []

-- ---- the summary table

unfoldable pub summary_of : List Row → List (List ℤ)
summary_of rows = map (λ station. station_numbers station (rows_of station rows)) (stations rows)

-- the stations one after the other; "numbers past the last station keep what they held"
unfoldable pub filled : List (List ℤ) → List ℤ → List ℤ
filled [] before = before
filled (l ∷ ls) before = l ++ filled ls (drop station_length before)
