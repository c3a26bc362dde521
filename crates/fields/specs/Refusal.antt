-- The line of a refusal. §3.3: "A refused sheet prints only `refused,` then number, line and column with commas. Each printed line ends
-- with one byte 10."
use Rattle.std.specs.Prelude.{ℕ, List, [], ◌∷◌, map}
use Rattle.text.specs.Text.{bytes}
use Rattle.writing.specs.{Decimal.{decimal}, Text.{parted, ended}}
use Rattle.std.specs.Prelude.{Result, Ok, Err}
use Rattle.refusal.specs.{declared.Refused.{Refused}}

-- a word and some numbers
unfoldable pub numbered : List ℕ → List ℕ → List ℕ
numbered word numbers = ended (parted (word ∷ map decimal numbers))

unfoldable pub refused_text : ℕ → ℕ → ℕ → List ℕ
refused_text number line column = numbered (bytes "refused") (number ∷ line ∷ column ∷ [])

-- the text t, or "only" the refusal
unfoldable pub unless_refused : {A : Type 0} → Result A Refused → List ℕ → List ℕ
unless_refused (Ok count) t = t
unless_refused (Err why) t = refused_text why.0 why.1 why.2

-- `refused`, and a comma with twenty digits three times, and byte 10
abbrev pub refusal_bytes : ℕ
refusal_bytes = 71
