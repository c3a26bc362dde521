-- `exponential::series` meets its contract: the sum is that of the levels from i on.
use Prim.Native.Nat.{◌-◌}
use mathlib.Core.Path.{◌≡◌}
use Rattle.exponential.specs.Ends.{levels, nested_of}
use Rattle.exponential.proofs.series.Given as goal

abbrev pub invariant-loop-i : goal.invariant-loop-i
invariant-loop-i l = l.sum ≡ nested_of 1 l.y l.i (levels - l.i)
