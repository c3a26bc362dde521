-- §7.2: the lines of a station, and what is counted of them: "of all lines of the station, licensed or not".
use Rattle.std.specs.Prelude.{ℕ, ◌+◌, ◌*◌, ◌-◌, ◌/◌, ◌%◌, ◌^◌}
use mathlib.Core.{Bool.{Bool, false, cond, not, ◌&&◌, ◌||◌}, List.{List, [], ◌∷◌}}
use lib.{Dec.{ltb, eqb}, IntN.{nat_abs}, ListN.{get_or}}
use Rattle.whole.specs.Count.{one}
use Rattle.case.specs.{declared.Case.{Case}, Case.{case_of}}
use Rattle.decision.specs.Verdict.{verdict_number}
use Rattle.row.specs.Ends.{row_of}

-- the cases of a station, in their order
unfoldable pub lines_of : ℕ → List Case → List Case
lines_of station [] = []
lines_of station (c ∷ cs) = cond (eqb c.station station) (c ∷ lines_of station cs) (lines_of station cs)

-- how many lines pass a test
unfoldable pub count_of : (Case → Bool) → List Case → ℕ
count_of test [] = 0
count_of test (c ∷ cs) = one (test c) + count_of test cs

-- ---- "how many seasons of the licence have no line"

-- season i is one of these seasons: "season i counts 2^(i−1)"
unfoldable pub licensed : ℕ → ℕ → Bool
licensed i seasons = eqb (seasons / 2 ^ (i - 1) % 2) 1

unfoldable pub has_line : ℕ → List Case → Bool
has_line season [] = false
has_line season (c ∷ cs) = eqb c.season season || has_line season cs

unfoldable pub without : ℕ → ℕ → List Case → ℕ
without season seasons lines = one (licensed season seasons && not (has_line season lines))

unfoldable pub missing : ℕ → List Case → ℕ
missing seasons lines = without 1 seasons lines + without 2 seasons lines + without 3 seasons lines + without 4 seasons lines

-- ---- the four tests of a line

-- "how many are answered unsafe": verdict 2
unfoldable pub answered_unsafe : Case → Bool
answered_unsafe c = eqb (verdict_number (row_of c).verdict) 2

-- "how many undecided": verdict 3
unfoldable pub answered_undecided : Case → Bool
answered_undecided c = eqb (verdict_number (row_of c).verdict) 3

-- "across, along, space, depth, dia, rods, rodlen, place, metal: a yard does not change with the season"
unfoldable pub same_yard : Case → Case → Bool
same_yard c d =
    eqb c.across d.across && (eqb c.along d.along && (eqb c.space d.space && (eqb c.depth d.depth
    && (eqb c.dia d.dia && (eqb c.rods d.rods && (eqb c.rodlen d.rodlen && (eqb c.place d.place
    && eqb c.metal d.metal)))))))

unfoldable pub other_yard : Case → Case → Bool
other_yard yard c = not (same_yard yard c)

-- the conductor's cross-section in whole kcmil, rounded down: "the conductor's own", or with 0 that of a solid round wire of the line's
-- diameter, 1000·dia²/64,516 (254² = 64,516; dia in tenths of a mm)
unfoldable pub area_of : ℕ → Case → ℕ
area_of own c = cond (eqb own 0) (1000 * (c.dia * c.dia) / 64516) own

-- "a conductor too small for the row's size"
unfoldable pub too_small : ℕ → Case → Bool
too_small own c = ltb (area_of own c) (nat_abs (row_of c).size)

-- "its first line"
abbrev pub first_line : List Case → Case
first_line lines = get_or lines 0 (case_of [])
