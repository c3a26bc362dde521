-- §7.2: "the greatest fault current at which, put into every line of the station, every line is answered safe (0 where none, or no line)".
use Rattle.std.specs.Prelude.{ℕ, zero, suc}
use mathlib.Core.{Bool.{Bool, true, cond, ◌&&◌}, List.{List, [], ◌∷◌}}
use lib.{Dec.{leb, eqb}, ListN.{length}}
use Rattle.case.specs.{declared.Case.{Case}, Fault.{with_fault}}
use Rattle.yards.specs.Yards.{is_safe}

-- every line is answered safe with this fault current in place of its own
unfoldable pub every_safe : ℕ → List Case → Bool
every_safe f [] = true
every_safe f (c ∷ cs) = is_safe (with_fault f c) && every_safe f cs

-- the greatest from 100 up to a fault current, or 0
unfoldable pub greatest_fault : List Case → ℕ → ℕ
greatest_fault lines zero = 0
greatest_fault lines (suc f) = cond (leb 100 (suc f) && every_safe (suc f) lines) (suc f) (greatest_fault lines f)

-- of all fault currents in 100..80000
unfoldable pub common_fault : List Case → ℕ
common_fault lines = greatest_fault lines 80000

unfoldable pub station_fault : List Case → ℕ
station_fault lines = cond (eqb (length lines) 0) 0 (common_fault lines)
