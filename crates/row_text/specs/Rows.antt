-- §3.1: what the rows program prints of a row: all its numbers, below a line of names with units.
use Rattle.std.specs.Prelude.{ℕ, List, [], ◌∷◌, map}
use Rattle.text.specs.Text.{bytes}
use Rattle.writing.specs.Decimal.{signed}
use Rattle.row.specs.{declared.Row.{Row}, Row.{numbers}}

unfoldable pub row_names : List (List ℕ)
row_names =
    bytes "station" ∷ bytes "season" ∷ bytes "verdict" ∷ bytes "size_kcmil"
    ∷ bytes "grid_current_lower_uA" ∷ bytes "grid_current_upper_uA"
    ∷ bytes "factor_lower_billionths" ∷ bytes "factor_upper_billionths"
    ∷ bytes "tolerable_touch_lower_mV" ∷ bytes "tolerable_touch_upper_mV"
    ∷ bytes "tolerable_step_lower_mV" ∷ bytes "tolerable_step_upper_mV"
    ∷ bytes "mesh_lower_mV" ∷ bytes "mesh_upper_mV"
    ∷ bytes "step_lower_mV" ∷ bytes "step_upper_mV"
    ∷ bytes "resistance_lower_uohm" ∷ bytes "resistance_upper_uohm"
    ∷ bytes "rise_lower_mV" ∷ bytes "rise_upper_mV"
    ∷ []

-- all numbers of a row, in the order of the table; the verdict by its number
unfoldable pub row_fields : Row → List (List ℕ)
row_fields r = map signed (numbers r)
