-- A signed number as the difference of two natural numbers, of which one is 0, so that facts about it are facts about ℕ.
use Rattle.std.specs.Prelude.{ℕ, suc, ℤ, pos, negsuc}

-- how far a number is above 0
abbrev pub plus : ℤ → ℕ
plus (pos n) = n
plus (negsuc n) = 0

-- how far a number is below 0
abbrev pub minus : ℤ → ℕ
minus (pos n) = 0
minus (negsuc n) = suc n
