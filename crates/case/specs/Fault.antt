-- §10.1: a case with another fault current, all else equal.
use Rattle.std.specs.Prelude.{ℕ}
use Rattle.case.specs.{declared.Case.{Case}, Eased.{eased}}

abbrev pub with_fault : ℕ → Case → Case
with_fault f c = eased f c.split c.shock c.body c
