-- §10.3, the driest soil decides: "For two cases that differ in soil alone (and station and season): where the one with the higher
-- resistivity is answered safe, the other is never answered unsafe; bare or with a layer." It may be answered undecided, since the ends are
-- rounded.
use Rattle.std.specs.Prelude.{◌≤◌, ◌≡◌}
use Rattle.case.specs.{declared.Case.{Case}, Key.{under_key}, Soil.{with_soil}}

-- d differs from c in soil alone, apart from station and season, and c is the one with the higher resistivity
pub record LessSoil (c d : Case) : Type 0 where
  pub all_else : d ≡ under_key d.station d.season (with_soil d.soil c)
  pub less : d.soil ≤ c.soil
