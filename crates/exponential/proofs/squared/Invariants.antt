-- `exponential::squared` meets its contract: the power is v squared so many times.
use mathlib.Core.Path.{◌≡◌}
use Rattle.exponential.specs.Ends.{squared_of}
use Rattle.exponential.proofs.squared.Given as goal

abbrev pub invariant-loop-i : goal.invariant-loop-i
invariant-loop-i l = l.power ≡ squared_of 0 l.v l._i
