-- A text of lines. §3.3: "prints the header shown, then each row's" fields.
use Rattle.std.specs.Prelude.{ℕ, List, ◌∷◌, map}
use Rattle.writing.specs.Text.{parted, text_of}

-- a line of names, then a line of fields for each row
unfoldable pub listed : List (List ℕ) → List (List (List ℕ)) → List ℕ
listed names rows = text_of (map parted (names ∷ rows))
