-- §10.3: a case with another soil resistivity, all else equal.
use Rattle.std.specs.Prelude.{ℕ}
use Rattle.case.specs.{declared.Case.{Case}, Changed.{changed}}

abbrev pub with_soil : ℕ → Case → Case
with_soil soil c = changed c.station c.season soil c.shock c.body c.fault c.split c
