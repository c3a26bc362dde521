-- §10.2: "Safe stays safe when fault times split is lower or the same, shock is shorter or the same and body is heavier or the same, all
-- else equal." §10.1 is the case of the fault current alone.
use Rattle.std.specs.Prelude.{◌*◌, ◌≤◌, ◌≡◌}
use Rattle.case.specs.{declared.Case.{Case}, Key.{under_key}, Eased.{eased}}

-- d is no worse than c, all else equal. Station and season may differ, as they must for two lines of one sheet.
pub record NoWorse (c d : Case) : Type 0 where
  pub all_else : d ≡ under_key d.station d.season (eased d.fault d.split d.shock d.body c)
  pub enters : d.fault * d.split ≤ c.fault * c.split
  pub shorter : d.shock ≤ c.shock
  pub heavier : c.body ≤ d.body
