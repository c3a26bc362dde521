-- What one loop writes of the rows of a table (§3.1): fields of a row's numbers. proofs/Texts.antt proves that the programs' texts are such
-- lines.
use Rattle.std.specs.Prelude.{ℕ, List, ◌∷◌, ◌++◌, map}
use lib.{IntN.{ℤ, pos}, ListN.{length, get_or, take}}
use Rattle.writing.specs.Text.{parted, text_of}
use Rattle.row.specs.Places.{station_place, season_place, verdict_place}
use Rattle.margin.specs.Margin.{margins_of}
use Rattle.fields.specs.Fields.{fields_from}
use Rattle.row_text.specs.{declared.Shown.{Shown, TheVariants.{Verdict, Numbers, Margins}}, Margins.{two_margins}}

-- station, season and verdict of a row, then its margins
unfoldable pub margin_numbers : List ℤ → List ℤ
margin_numbers row =
    get_or row station_place (pos 0) ∷ get_or row season_place (pos 0) ∷ get_or row verdict_place (pos 0) ∷ two_margins (margins_of row)

-- what is shown of a row: station, season, verdict and size; all its numbers; or station, season, verdict and margins
unfoldable pub shown_fields : Shown → List ℤ → List (List ℕ)
shown_fields Verdict row = fields_from verdict_place 0 (take 4 row)
shown_fields Numbers row = fields_from (length row) 0 row
shown_fields Margins row = fields_from verdict_place 0 (margin_numbers row)

-- the same as a line, without its byte 10
unfoldable pub shown_line : Shown → List ℤ → List ℕ
shown_line what row = parted (shown_fields what row)

-- the lines of some rows after a line of names that has its byte 10
unfoldable pub lines_after : List ℕ → Shown → List (List ℤ) → List ℕ
lines_after names what rows = names ++ text_of (map (shown_line what) rows)
