-- §6.5: how far a voltage lies above what is tolerable, in tenths of a percent of the tolerable voltage, from the ends on the cautious
-- side: the voltage's upper end and the tolerable voltage's lower end.
use Rattle.std.specs.Prelude.{ℕ, ◌*◌, ◌^◌, Option, Some, None}
use mathlib.Core.{Bool.{Bool, cond, ◌&&◌}, List.{List}}
use lib.{Dec.{eqb}, IntN.{ℤ, pos, nat_abs, ◌-ℤ◌}, ListN.{get_or, length}, Signed.{le_z}}
use Rattle.whole.specs.Whole.{ceil_div}
use Rattle.row.specs.{Row.{row_length}, Places.{tolerable_touch_lower_place, tolerable_step_lower_place, mesh_upper_place, step_upper_place}}

-- a whole tolerable voltage in tenths of a percent
abbrev pub whole : ℕ
whole = 1000

-- above it, or below it as a negative number: the smallest whole m with 1000·voltage ≤ (1000 + m)·tolerable
unfoldable pub margin : ℕ → ℕ → ℤ
margin voltage tolerable = pos (ceil_div (whole * voltage) tolerable) -ℤ pos whole

-- ---- of any numbers

-- in mV; no row of a case has so many
abbrev pub most_voltage : ℕ
most_voltage = 10 ^ 15

unfoldable pub in_range : ℤ → ℤ → Bool
in_range low z = le_z low z && le_z z (pos most_voltage)

-- a voltage from 0 and a tolerable voltage above 0
unfoldable pub comparable : ℤ → ℤ → Bool
comparable voltage tolerable = in_range (pos 0) voltage && in_range (pos 1) tolerable

-- of mesh voltage and tolerable touch, step voltage and tolerable step
unfoldable pub four_margins : (mesh tolerable_touch step tolerable_step : ℤ) → Option (ℤ × ℤ)
four_margins mesh tolerable_touch step tolerable_step =
    cond (comparable mesh tolerable_touch && comparable step tolerable_step)
    (Some (margin (nat_abs mesh) (nat_abs tolerable_touch), margin (nat_abs step) (nat_abs tolerable_step))) None

-- of the numbers of a row
unfoldable pub margins_of : List ℤ → Option (ℤ × ℤ)
margins_of row =
    cond (eqb (length row) row_length)
    (four_margins (get_or row mesh_upper_place (pos 0)) (get_or row tolerable_touch_lower_place (pos 0)) (get_or row step_upper_place (pos 0))
    (get_or row tolerable_step_lower_place (pos 0)))
    None
