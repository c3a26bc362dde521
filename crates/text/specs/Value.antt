-- Values. §1.3: "A value is one to six decimal digits; 0 is the only value that may start with 0."
use Rattle.std.specs.Prelude.{ℕ, ◌+◌, ◌-◌, ◌*◌, Option, Some, None}
use mathlib.Core.{Bool.{Bool, true, not, cond, ◌&&◌, ◌||◌}, List.{List, [], ◌∷◌}}
use lib.{ListN.{length, get_or}, Dec.{leb, eqb}}

-- decimal digits: bytes 48 to 57
unfoldable pub digit : ℕ → Bool
digit b = leb 48 b && leb b 57

unfoldable pub digits : List ℕ → Bool
digits [] = true
digits (b ∷ t) = digit b && digits t

-- one digit, or the first is not 0
unfoldable pub plain : List ℕ → Bool
plain t = leb (length t) 1 || not (eqb (get_or t 0 0) 48)

unfoldable pub is_value : List ℕ → Bool
is_value t = leb 1 (length t) && leb (length t) 6 && digits t && plain t

-- the number that digits stand for, after a number n that stands before them
unfoldable pub number_from : ℕ → List ℕ → ℕ
number_from n [] = n
number_from n (b ∷ t) = number_from (n * 10 + (b - 48)) t

unfoldable pub value_of : List ℕ → ℕ
value_of t = number_from 0 t

-- what a field holds: a value, or none where its bytes have a wrong form
unfoldable pub field_value : List ℕ → Option ℕ
field_value t = cond (is_value t) (Some (value_of t)) None
