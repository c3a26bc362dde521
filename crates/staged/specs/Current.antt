-- The grid current of a staged test, part by part in milliamperes. §9.2.
use Rattle.std.specs.Prelude.{ℕ, ◌+◌, ◌*◌, List, [], ◌∷◌}
use lib.{IntN.{ℤ, pos, nat_abs, ◌+ℤ◌, ◌-ℤ◌}, ListN.{get_or, drop}}

-- the first number, the third, the fifth, ..
unfoldable pub every_other : List ℤ → List ℤ
every_other [] = []
every_other (z ∷ []) = z ∷ []
every_other (z ∷ w ∷ s) = z ∷ every_other s

-- "in-phase and quadrature parts in signed milliamperes, the injected pair first, then 1 to 16 branch pairs"
unfoldable pub in_phase : List ℤ → List ℤ
in_phase s = every_other s

unfoldable pub quadrature : List ℤ → List ℤ
quadrature s = every_other (drop 1 s)

-- of the parts of one of the two kinds: the injected current's, the branches', their sum
unfoldable pub injected : List ℤ → ℤ
injected p = get_or p 0 (pos 0)

unfoldable pub branches : List ℤ → List ℤ
branches p = drop 1 p

unfoldable pub total : List ℤ → ℤ
total [] = pos 0
total (z ∷ p) = z +ℤ total p

-- "grid current as injected current less the measured branches" (IEEE Std 81.2, equation 50)
unfoldable pub grid_part : List ℤ → ℤ
grid_part p = injected p -ℤ total (branches p)

-- the square of a current with these parts
unfoldable pub square_of : ℤ → ℤ → ℕ
square_of a b = nat_abs a * nat_abs a + nat_abs b * nat_abs b
