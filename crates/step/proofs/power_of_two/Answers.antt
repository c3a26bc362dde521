-- `power_of_two` shifts one: the power stays below the width.
use Prim.Native.Nat.{◌*◌}
use mathlib.Core.Path.{◌≡◌, ◌∙◌}
use native.Mathlib.{Nat.{mod-eq_of_lt, one-mul}, Omega.{arith}}
use Rattle.step.specs.Ends.{power_of_two}
use Rattle.step.proofs.{FactorSpans.{power_bounds}}
use Rattle.step.proofs.power_of_two.Goals as goal

pub returns : goal.returns
unfolding power_of_two
returns c =
    let p = power_of_two c.args.c in
    let e : 1 * p ≡ p = one-mul p in
    mod-eq_of_lt (omega (arith, power_bounds c.requires)) ∙ e
