-- What the programs print of a sheet, each a line of names and a line for each row or station, or the refusal. The fields of a row are in
-- row_text/specs.
use Rattle.std.specs.Prelude.{ℕ, List, [], ◌∷◌, map}
use Rattle.text.specs.Text.{bytes}
use Rattle.writing.specs.Decimal.{signed}
use Rattle.case.specs.Columns.{columns}
use Rattle.judgement.specs.Sheet.{judgement}
use Rattle.row.specs.declared.Row.{Row}
use Rattle.station_sums.specs.Summary.{summary_of}
use Rattle.stations.specs.Answer.{sheet_rows}
use Rattle.fields.specs.{Refusal.{unless_refused}, Listed.{listed}}
use Rattle.row_text.specs.{Verdict.{verdict_names, verdict_fields}, Rows.{row_names, row_fields}, Margins.{margin_names, margin_fields}}

-- the rows after the line of names, each with some fields of its own
abbrev pub listed_sheet : List (List ℕ) → (Row → List (List ℕ)) → List ℕ → List ℕ
listed_sheet names fields s = unless_refused (judgement columns s) (listed names (map fields (sheet_rows s)))

-- "prints the header shown, then each row's station, season, verdict (safe, unsafe or undecided) and kcmil" (§3.3)
unfoldable pub verdict_text : List ℕ → List ℕ
verdict_text s = listed_sheet verdict_names verdict_fields s

unfoldable pub rows_text : List ℕ → List ℕ
rows_text s = listed_sheet row_names row_fields s

unfoldable pub margins_text : List ℕ → List ℕ
margins_text s = listed_sheet margin_names margin_fields s

-- "six numbers a station, stations by first appearance: station, count of seasons, counts of safe, unsafe and undecided, and the season
-- with the highest upper mesh end" (§7.1)
unfoldable pub summary_names : List (List ℕ)
summary_names =
    bytes "station" ∷ bytes "seasons" ∷ bytes "safe" ∷ bytes "unsafe" ∷ bytes "undecided" ∷ bytes "highest_mesh_season" ∷ []

unfoldable pub summary_text : List ℕ → List ℕ
summary_text s = unless_refused (judgement columns s) (listed summary_names (map (map signed) (summary_of (sheet_rows s))))
