-- §3.3: the fields of a printed line: a number with its sign, or the word of a verdict's number.
use Rattle.std.specs.Prelude.{ℕ, suc}
use mathlib.Core.{Bool.{cond}, List.{List, [], ◌∷◌}}
use lib.{Dec.{eqb}, IntN.{ℤ, pos, negsuc}}
use Rattle.text.specs.Text.{bytes}
use Rattle.writing.specs.{Decimal.{signed}, Text.{parted, ended}}

-- the word of a verdict's number: 1 safe, 2 unsafe, else undecided
unfoldable pub word_of : ℤ → List ℕ
word_of (pos n) = cond (eqb n 1) (bytes "safe") (cond (eqb n 2) (bytes "unsafe") (bytes "undecided"))
word_of (negsuc n) = bytes "undecided"

-- the field of a number with index i: that with index `word` is a verdict
unfoldable pub field : ℕ → ℕ → ℤ → List ℕ
field word i z = cond (eqb i word) (word_of z) (signed z)

-- the fields of numbers, the first with index i
unfoldable pub fields_from : ℕ → ℕ → List ℤ → List (List ℕ)
fields_from word i [] = []
fields_from word i (z ∷ zs) = field word i z ∷ fields_from word (suc i) zs

-- a line with its byte 10
unfoldable pub line_of : ℕ → List ℤ → List ℕ
line_of word row = ended (parted (fields_from word 0 row))
