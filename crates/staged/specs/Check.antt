-- The checks of a staged test's numbers: the injected current's in-phase and quadrature part in signed milliamperes, then those of each
-- branch. §9.2.
use Rattle.std.specs.Prelude.{ℕ, ◌%◌}
use mathlib.Core.{Bool.{Bool, false, not, ◌&&◌, ◌||◌}, List.{List, [], ◌∷◌}}
use lib.{Dec.{ltb, eqb}, IntN.{ℤ, pos, neg_ℤ, nat_abs}, ListN.{get_or}, Signed.{lt_z}}

-- "the injected pair first, then 1 to 16 branch pairs"
unfoldable pub fewest_numbers : ℕ
fewest_numbers = 4

unfoldable pub most_numbers : ℕ
most_numbers = 34

-- "17 when the count of numbers is odd, below 4 or above 34"
unfoldable pub bad_count : ℕ → Bool
bad_count n = not (eqb (n % 2) 0) || ltb n fewest_numbers || ltb most_numbers n

-- "18 when a part is outside −1,000,000..1,000,000"
unfoldable pub largest_part : ℕ
largest_part = 1000000

unfoldable pub outside : ℤ → Bool
outside z = lt_z z (neg_ℤ (pos largest_part)) || lt_z (pos largest_part) z

unfoldable pub any_outside : List ℤ → Bool
any_outside [] = false
any_outside (z ∷ s) = outside z || any_outside s

-- "19 when both injected parts are 0"
unfoldable pub none_injected : List ℤ → Bool
none_injected s = eqb (nat_abs (get_or s 0 (pos 0))) 0 && eqb (nat_abs (get_or s 1 (pos 0))) 0
