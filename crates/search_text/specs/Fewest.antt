-- What the fewest program prints of its input: a line with a square side in mm, then a sheet of one value line. §6.7: "Given one case and a
-- square side in mm"; "The answer gives that yard's line and rod counts. None is answered only if no yard tried is safe. The number of
-- yards tried is reported".
use Rattle.std.specs.Prelude.{ℕ, suc, ◌+◌, Option, unwrap_or, Result, Ok, Err}
use mathlib.Core.{Bool.{cond}, List.{List, [], ◌∷◌}}
use lib.{Dec.{ltb}, ListN.{length, take, drop}}
use Rattle.refusal.specs.{declared.Refused.{Refused}, Refused.{refuse}}
use Rattle.text.specs.{Text.{bytes, index_of}, Value.{field_value}}
use Rattle.judgement.specs.Limits.{most_bytes}
use Rattle.yards.specs.declared.FewestLines.{FewestLines, TheVariants.{Found, None}}
use Rattle.one_line.specs.Answer.{sheet_answer}
use Rattle.fields.specs.Refusal.{numbered, refused_text}

-- ---- the input

-- a line that is not a value counts as 0, which is out of the range of a side
unfoldable pub side_of : Option ℕ → ℕ
side_of side = unwrap_or side 0

-- the side that the first line says
unfoldable pub side_in : List ℕ → ℕ
side_in s = side_of (field_value (take (index_of 10 s) s))

-- the sheet, which is what follows the first line
unfoldable pub sheet_in : List ℕ → List ℕ
sheet_in s = drop (suc (index_of 10 s)) s

-- a side has at most six digits, and its line one byte more
abbrev pub input_bytes : ℕ
input_bytes = 7 + most_bytes

-- 1 of an input that is longer than any side with any sheet; else the answer to the sheet and the side
unfoldable pub input_answer : List ℕ → Result FewestLines Refused
input_answer s = cond (ltb input_bytes (length s)) (refuse 1 0 0) (sheet_answer (sheet_in s) (side_in s))

-- ---- the text

-- lines, rods and yards tried; how many yards were tried, none of them safe; or the refusal
unfoldable pub search_text : Result FewestLines Refused → List ℕ
search_text (Ok (Found lines rods tried)) = numbered (bytes "found") (lines ∷ rods ∷ tried ∷ [])
search_text (Ok (None tried)) = numbered (bytes "none") (tried ∷ [])
search_text (Err why) = refused_text why.0 why.1 why.2

unfoldable pub fewest_text : List ℕ → List ℕ
fewest_text s = search_text (input_answer s)
