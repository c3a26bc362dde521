-- The apparent resistivity of a pair, and its least, greatest and mean over a list, as exact values in ohm metres. §9.1: "The apparent
-- resistivity is 2π·a·R. The report gives the ends of the least, the greatest and the mean over all pairs".
use Rattle.std.specs.Prelude.{List, [], ◌∷◌, length}
use Rattle.exact.specs.{Fraction.{whole, decimal, minf, maxf}, Exact.{Exact, exactly, ◌+x◌, ◌·x◌, ◌÷x◌}, Pi.{π}}
use Rattle.readings.specs.Reading.{Reading}

-- 2π·a·R, with a in metres and R in ohms
unfoldable pub apparent : Reading → Exact
apparent p = exactly (whole 2) ·x π ·x exactly (decimal p.distance 3) ·x exactly (decimal p.resistance 3)

-- the lesser and the greater of two values: of their lower ends and of their upper ends at each depth
unfoldable pub lesser : Exact → Exact → Exact
lesser x y k = record { lower = minf (x k).lower (y k).lower; upper = minf (x k).upper (y k).upper }

unfoldable pub greater : Exact → Exact → Exact
greater x y k = record { lower = maxf (x k).lower (y k).lower; upper = maxf (x k).upper (y k).upper }

-- the values of all pairs taken together, two by two; of no pair it has no meaning
unfoldable pub together : (Exact → Exact → Exact) → List Reading → Exact
together op [] = exactly (whole 0)
together op (p ∷ []) = apparent p
together op (p ∷ q ∷ ps) = op (apparent p) (together op (q ∷ ps))

unfoldable pub least : List Reading → Exact
least = together lesser

unfoldable pub greatest : List Reading → Exact
greatest = together greater

-- the sum of all over their count
unfoldable pub mean : List Reading → Exact
mean ps = together ◌+x◌ ps ÷x exactly (whole (length ps))
