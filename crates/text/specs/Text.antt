-- Bytes into lines and fields. §1.1: "A line ends with one byte 10. Fields are parted by one comma."
use Prim.Native.{Nat.{ℕ, zero, suc}, Char.{code}, String.{String, [] as ends, ◌∷◌ as ◌then◌}}
use mathlib.Core.{Bool.{Bool, true, false, cond, ◌&&◌}, List.{List, [], ◌∷◌}}
use Rattle.std.specs.Prelude.{◌==◌}

-- the bytes of a quoted text of ASCII characters
abbrev pub bytes : String → List ℕ
bytes ends = []
bytes (◌then◌ c t) = code c ∷ bytes t

-- the index of the first byte b of a text, or the text's length where there is none
unfoldable pub index_of : ℕ → List ℕ → ℕ
index_of b [] = zero
index_of b (x ∷ t) = cond (x == b) zero (suc (index_of b t))

-- a byte put in front of the first of some texts
unfoldable pub on_first : ℕ → List (List ℕ) → List (List ℕ)
on_first b [] = (b ∷ []) ∷ []
on_first b (t ∷ ts) = (b ∷ t) ∷ ts

-- the lines of a text: each ends with one byte 10
unfoldable pub lines_of : List ℕ → List (List ℕ)
lines_of [] = []
lines_of (b ∷ t) = cond (b == 10) ([] ∷ lines_of t) (on_first b (lines_of t))

-- the fields of a line: separated by one comma, byte 44; an empty line is one empty field
unfoldable pub fields_of : List ℕ → List (List ℕ)
fields_of [] = [] ∷ []
fields_of (b ∷ t) = cond (b == 44) ([] ∷ fields_of t) (on_first b (fields_of t))

-- two texts agree byte for byte
unfoldable pub same : List ℕ → List ℕ → Bool
same [] [] = true
same [] (y ∷ ys) = false
same (x ∷ xs) [] = false
same (x ∷ xs) (y ∷ ys) = x == y && same xs ys
