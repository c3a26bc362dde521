-- The yards tried for a square side, in order. §6.7.
use Rattle.std.specs.Prelude.{ℕ, ◌*◌, ◌-◌, ◌/◌, ◌%◌}
use mathlib.Core.{Bool.{Bool, true, false, cond, ◌&&◌}, List.{List, [], ◌∷◌, ◌++◌, map}}
use Rattle.std.specs.Prelude.{eqb}
use Rattle.text.specs.Text.{bytes}
use Rattle.case.specs.{declared.Case.{Case}, Columns.{Range, columns, in_range, name_index}, Parts.{range_at}, Check.{count_from}}
use Rattle.decision.specs.declared.Verdict.{TheVariants.{Safe, Unsafe, Undecided}, Verdict}
use Rattle.row.specs.Ends.{case_verdict}

-- mm between two lines
unfoldable pub spacing : ℕ → ℕ → ℕ
spacing side lines = side / (lines - 1)

-- the spacing's range, as the table of names has it
unfoldable pub space_range : Range
space_range = range_at columns (name_index columns (bytes "space"))

-- "skipping a count where the side is not a whole multiple of count minus 1 or the spacing is out of range"
unfoldable pub fits : ℕ → ℕ → Bool
fits side lines = eqb (side % (lines - 1)) 0 && in_range space_range (spacing side lines)

-- the case with a yard's lines and rods at the perimeter; "A yard without rods has rod length and place 0."
unfoldable pub yard : Case → ℕ → ℕ → ℕ → Case
yard c side lines rods =
    record {
      station = c.station;
      season = c.season;
      soil = c.soil;
      layer = c.layer;
      thick = c.thick;
      shock = c.shock;
      clear = c.clear;
      wire = c.wire;
      body = c.body;
      fault = c.fault;
      split = c.split;
      xr = c.xr;
      across = lines;
      along = lines;
      space = spacing side lines;
      depth = c.depth;
      dia = c.dia;
      rods = rods;
      rodlen = cond (eqb rods 0) 0 c.rodlen;
      place = cond (eqb rods 0) 0 1;
      metal = c.metal;
      hz = c.hz;
    }

-- "0, 4, 8 up to 40 rods" from the k-th on
unfoldable pub rod_counts : ℕ → List ℕ
rod_counts k = map (λ i. 4 * i) (count_from k (11 - k))

-- the yards of one count of lines, from the k-th on
unfoldable pub yards_of : Case → ℕ → ℕ → ℕ → List Case
yards_of c side lines k = cond (fits side lines) (map (yard c side lines) (rod_counts k)) []

-- the yards of some counts of lines
unfoldable pub yards_over : Case → ℕ → List ℕ → List Case
yards_over c side [] = []
yards_over c side (n ∷ ns) = yards_of c side n 0 ++ yards_over c side ns

-- "try line counts 2 to 25 rising, the same across and along", from a count on
unfoldable pub yards_from : Case → ℕ → ℕ → List Case
yards_from c side lines = yards_over c side (count_from lines (26 - lines))

unfoldable pub yards : Case → ℕ → List Case
yards c side = yards_from c side 2

unfoldable pub means_safe : Verdict → Bool
means_safe Safe = true
means_safe Unsafe = false
means_safe Undecided = false

-- a yard is answered safe
unfoldable pub is_safe : Case → Bool
is_safe c = means_safe (case_verdict c)

-- "The case's own counts, spacing, rods and place are not read, nor compared with rodlen": in their place a yard that agrees with the rod
-- length
unfoldable pub trial : Case → Case
trial c = cond (eqb c.rodlen 0) (yard c 2500 2 0) (yard c 2500 2 4)
