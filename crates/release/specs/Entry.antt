-- §7.2: the eight numbers of an entry of the licence.
use Rattle.std.specs.Prelude.{ℕ}
use mathlib.Core.{Bool.{cond}, List.{List, [], ◌∷◌, map}}
use lib.{Dec.{eqb}, IntN.{ℤ, pos}}
use Rattle.case.specs.declared.Case.{Case}
use Rattle.release.specs.Licence.{Entry}
use Rattle.tally.specs.declared.Tally.{Tally}
use Rattle.tally.specs.Lines.{lines_of, count_of, missing, answered_unsafe, answered_undecided, other_yard, too_small, first_line}
use Rattle.tally.specs.{Fault.{station_fault}, Tally.{released}}

-- "eight numbers" an entry
abbrev pub entry_length : ℕ
entry_length = 8

-- of a station with its seasons, its conductor's own cross-section or 0, and its lines: "station; 1 released or 2 held; how many seasons of
-- the licence have no line; of all lines
-- of the station, licensed or not, how many are answered unsafe; how many undecided; how many describe another yard than its first line;
-- how many have a conductor too small for the row's size; and the greatest fault current"
unfoldable pub numbers_of : ℕ → ℕ → ℕ → List Case → List ℤ
numbers_of station seasons area lines =
    pos station
    ∷ pos (released (missing seasons lines) (count_of answered_unsafe lines) (count_of answered_undecided lines)
    (count_of (other_yard (first_line lines)) lines) (count_of (too_small area) lines))
    ∷ pos (missing seasons lines)
    ∷ pos (count_of answered_unsafe lines)
    ∷ pos (count_of answered_undecided lines)
    ∷ pos (count_of (other_yard (first_line lines)) lines)
    ∷ pos (count_of (too_small area) lines)
    ∷ pos (station_fault lines)
    ∷ []

-- of an entry with this station, these seasons and this cross-section, and the cases of a sheet
unfoldable pub station_numbers : ℕ → ℕ → ℕ → List Case → List ℤ
station_numbers station seasons area cs = numbers_of station seasons area (lines_of station cs)

-- for each entry in the licence's order eight numbers, of the cases of a sheet
unfoldable pub release_of : List Entry → List Case → List (List ℤ)
release_of ps cs = map (λ p. station_numbers p.station p.seasons p.area cs) ps

-- the eight numbers of a station by what is counted of its lines
unfoldable pub eight : ℕ → ℕ → Tally → List ℤ
eight station noLine t =
    pos station
    ∷ pos (released noLine t.not_safe t.undecided t.other t.small)
    ∷ pos noLine
    ∷ pos t.not_safe
    ∷ pos t.undecided
    ∷ pos t.other
    ∷ pos t.small
    ∷ pos (cond (eqb t.lines 0) 0 t.fault)
    ∷ []
