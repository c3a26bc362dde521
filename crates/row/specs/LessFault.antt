-- §10.1: "Show for every case answered safe that the same case with a lower fault current, all else equal, is never answered unsafe, for
-- rectangles and both frequencies." proofs/StaysSafe.antt shows more: it is answered safe.
use Rattle.std.specs.Prelude.{◌≤◌, ◌≡◌}
use Rattle.case.specs.{declared.Case.{Case}, Fault.{with_fault}, Key.{under_key}}

-- Compared with c, d is "the same case with a lower fault current, all else equal". Station and season may differ, as they must for two
-- lines of one sheet.
pub record LessFault (c d : Case) : Type 0 where
  pub all_else : d ≡ under_key d.station d.season (with_fault d.fault c)
  pub less : d.fault ≤ c.fault
