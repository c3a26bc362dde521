-- §6.5: what the margins program prints of a row: station, season, verdict and margins, below a line of names. A margin is how far the
-- voltage's upper end lies above the tolerable voltage's lower end, per mille of the tolerable voltage, and below 0 where it lies below.
use Rattle.std.specs.Prelude.{ℕ, List, [], ◌∷◌, map, ℤ, pos, Option, Some, None}
use Rattle.text.specs.Text.{bytes}
use Rattle.writing.specs.Decimal.{signed}
use Rattle.row.specs.{declared.Row.{Row}, Row.{numbers}}
use Rattle.margin.specs.Margin.{margins_of}
use Rattle.row_text.specs.Verdict.{word}

unfoldable pub margin_names : List (List ℕ)
margin_names =
    bytes "station" ∷ bytes "season" ∷ bytes "verdict" ∷ bytes "mesh_excess_per_mille" ∷ bytes "step_excess_per_mille" ∷ []

-- mesh voltage above tolerable touch, step voltage above tolerable step; no row of a sheet is without them
unfoldable pub two_margins : Option (ℤ × ℤ) → List ℤ
two_margins (Some (mesh, step)) = mesh ∷ step ∷ []
two_margins None = pos 0 ∷ pos 0 ∷ []

unfoldable pub margin_fields : Row → List (List ℕ)
margin_fields r = signed r.station ∷ signed r.season ∷ word r.verdict ∷ map signed (two_margins (margins_of (numbers r)))
