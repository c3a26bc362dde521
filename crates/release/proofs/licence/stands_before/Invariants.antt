-- `stands_before` compares every earlier station.
use mathlib.Core.Path.{◌≡◌}
use Rattle.release.specs.{Licence.{among}, Earlier.{earlier}}
use Rattle.release.proofs.licence.stands_before.Given as goal

abbrev pub invariant-loop-i : goal.invariant-loop-i
invariant-loop-i l = l.found ≡ among l.station (earlier l.licence l.i)
