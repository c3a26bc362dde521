-- `exponential::squared` meets its contract: the power is v squared so many times.
use Prim.Native.Nat.{◌≤◌}
use mathlib.Core.Path.{refl}
use native.Mathlib.{Omega.{arith}, Nat.{mul-le-mul, add-zero}, Numerals.{add-one}}
use Rattle.exponential.specs.Ends.{unit, squared_of}
use Rattle.exponential.proofs.{Sizes.{squared_below}}
use Rattle.exponential.proofs.squared.Goals as goal

pub loop-i-init : goal.loop-i-init
unfolding squared_of
loop-i-init c = refl

pub overflow_mul-power : goal.overflow_mul-power
overflow_mul-power c =
    let h : c.loop-i.power ≤ unit = rw c.loop-i.invariant (squared_below c.requires.0 c.loop-i._i) in
    omega (arith, mul-le-mul h h)

pub loop-i-preserved : goal.loop-i-preserved
unfolding squared_of
loop-i-preserved c = rw (add-one, c.loop-i.invariant, add-zero)
