-- Lines and fields into bytes. §1.1: "A line ends with one byte 10. Fields are parted by one comma."
use Rattle.std.specs.Prelude.{ℕ}
use mathlib.Core.{Bool.{Bool, true, not, ◌&&◌}, List.{List, [], ◌∷◌, ◌++◌, map}}
use lib.{Dec.{leb, eqb}, ListN.{length}}
use Rattle.writing.specs.Decimal.{decimal}

-- a comma before each of some fields
unfoldable pub more_fields : List (List ℕ) → List ℕ
more_fields [] = []
more_fields (f ∷ fs) = 44 ∷ f ++ more_fields fs

-- fields separated by one comma
unfoldable pub parted : List (List ℕ) → List ℕ
parted [] = []
parted (f ∷ fs) = f ++ more_fields fs

-- a line with its byte 10
unfoldable pub ended : List ℕ → List ℕ
ended l = l ++ (10 ∷ [])

-- the text of some lines
unfoldable pub text_of : List (List ℕ) → List ℕ
text_of [] = []
text_of (l ∷ ls) = ended l ++ text_of ls

-- a value line, without its byte 10
unfoldable pub value_line : List ℕ → List ℕ
value_line v = parted (map decimal v)

-- a sheet: the line of names, and a line for each list of values
unfoldable pub sheet_text : List (List ℕ) → List (List ℕ) → List ℕ
sheet_text names vs = text_of (parted names ∷ map value_line vs)

-- a text without a byte b
unfoldable pub lacks : ℕ → List ℕ → Bool
lacks b [] = true
lacks b (x ∷ t) = not (eqb x b) && lacks b t

-- some texts without a byte b
unfoldable pub all_lack : ℕ → List (List ℕ) → Bool
all_lack b [] = true
all_lack b (t ∷ ts) = lacks b t && all_lack b ts

-- values of at most six digits
unfoldable pub all_values : List ℕ → Bool
all_values [] = true
all_values (n ∷ v) = leb n 999999 && all_values v

-- lines of k values each
unfoldable pub all_lines : ℕ → List (List ℕ) → Bool
all_lines k [] = true
all_lines k (v ∷ vs) = (eqb (length v) k && all_values v) && all_lines k vs
