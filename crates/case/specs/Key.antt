-- §10.1: a case under another station and season, all else equal.
use Rattle.std.specs.Prelude.{ℕ}
use Rattle.case.specs.{declared.Case.{Case}, Changed.{changed}}

abbrev pub under_key : ℕ → ℕ → Case → Case
under_key station season c = changed station season c.soil c.shock c.body c.fault c.split c
