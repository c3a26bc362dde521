-- `exponential::series` meets its contract: the sum is that of the levels from i on.
use Prim.Native.Nat.{◌-◌, ◌≤◌}
use mathlib.Core.Path.{◌≡◌, refl}
use native.Mathlib.{Omega.{arith}, Nat.{mul-le-mul}}
use lib.Dec.{lit≤}
use Rattle.exponential.specs.Ends.{levels, nested_of, series_of}
use Rattle.exponential.proofs.{Sizes.{later_size, first_size}, Loops.{nested_again}}
use Rattle.exponential.proofs.series.Goals as goal
use Rattle.exponential.proofs.series.Goals.{After-loop-i}

pub loop-i-init : goal.loop-i-init
unfolding nested_of
loop-i-init c = refl

pub overflow_mul-sum : goal.overflow_mul-sum
overflow_mul-sum c =
    let l = c.loop-i in
    let h : l.sum ≤ 5600000000 = rw l.invariant (later_size (lit≤ tt) c.requires l.i (levels - l.i) (omega arith)) in
    omega (arith, mul-le-mul c.requires h)

pub loop-i-preserved : goal.loop-i-preserved
loop-i-preserved c = nested_again _ _ c.loop-i.i (omega arith) (omega arith) c.loop-i.invariant

last : (c : After-loop-i) → c.loop-i.sum ≡ nested_of 1 c.args.y 0 levels
last c =
    let e : c.loop-i.i ≡ 0 = omega arith in
    rw e at c.loop-i.invariant

pub overflow_add-result : goal.overflow_add-result
overflow_add-result c = rw (last (goal.at.overflow_add-result c).After-loop-i) (omega (arith, first_size {up = 1} (lit≤ tt) c.requires levels))

pub returns : goal.returns
unfolding series_of
returns c = rw (last (goal.at.returns c).After-loop-i)
