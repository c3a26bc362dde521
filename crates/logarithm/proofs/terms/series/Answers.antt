-- `logarithm::terms::series` meets its contract: after i terms the power and the sum are those of the definition.
use Prim.Native.Nat.{◌+◌, ◌*◌, ◌/◌}
use native.Mathlib.{Omega.{arith}, Nat.{div-le_self}}
use Rattle.logarithm.specs.Series.{unit}
use Rattle.logarithm.proofs.{Sums.{Fitting, summed_start, summed_again, fitting}}
use Rattle.logarithm.proofs.terms.series.Goals as goal
use Rattle.logarithm.proofs.terms.series.Goals.{In-loop-i}

pub loop-i-init : goal.loop-i-init
loop-i-init c = summed_start _

fits : (c : In-loop-i)
    → let a = c.args in
    let l = c.loop-i in
    Fitting (a.z * a.z / unit) l.i l.power l.sum
fits c = fitting c.loop-i.invariant c.requires

pub overflow_mul-sum : goal.overflow_mul-sum
overflow_mul-sum c = omega (arith, fits (goal.at.overflow_mul-sum c).In-loop-i)

pub overflow_add-sum-in-loop-i : goal.overflow_add-sum-in-loop-i
overflow_add-sum-in-loop-i c = omega (arith, fits (goal.at.overflow_add-sum-in-loop-i c).In-loop-i, div-le_self (2 * c.loop-i.power) (2 * c.loop-i.i + 1))

pub overflow_mul-power : goal.overflow_mul-power
overflow_mul-power c = omega (arith, fits (goal.at.overflow_mul-power c).In-loop-i)

pub loop-i-preserved : goal.loop-i-preserved
loop-i-preserved c = summed_again c.loop-i.invariant
