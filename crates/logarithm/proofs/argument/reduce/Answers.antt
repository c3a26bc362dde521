-- `reduce` divides by the base that `halve` found: its numbers are those of the definition, and small enough.
use Prim.Native.Nat.{◌≤◌}
use mathlib.Core.Path.{◌≡◌, ap, ◌∙◌}
use native.Mathlib.Omega.{arith}
use Rattle.logarithm.specs.Ends.{halvings_of, base_of, argument_of}
use Rattle.logarithm.proofs.{Ratio.{base_below, base_pos}}
use Rattle.logarithm.proofs.argument.reduce.Goals as goal
use Rattle.logarithm.proofs.argument.reduce.Goals.{After-halve-h, After-quotient}

base_is : (c : After-halve-h) → c.halve-h.result.base ≡ base_of c.args.p c.args.q
base_is c = ap (λ h. h.base) c.halve-h.ensures

times_is : (c : After-halve-h) → c.halve-h.result.times ≡ halvings_of c.args.p c.args.q
times_is c = ap (λ h. h.times) c.halve-h.ensures

argument_is : (c : After-quotient)
    → c.quotient.result ≡ argument_of c.args.p c.args.q
unfolding argument_of
argument_is c = c.quotient.ensures ∙ rw (base_is (goal.at.After-quotient c).After-halve-h)

base_bounds : (c : After-halve-h) → (1 ≤ c.halve-h.result.base) × (c.halve-h.result.base ≤ c.args.p)
base_bounds c =
    rw (base_is c) (base_pos c.requires.1.0.low c.requires.1.1, base_below c.requires.1.0.low c.requires.1.1)

pub overflow_sub-p : goal.overflow_sub-p
overflow_sub-p c = omega (arith, base_bounds (goal.at.overflow_sub-p c).After-halve-h)

pub overflow_add-p : goal.overflow_add-p
overflow_add-p c = omega (arith, base_bounds (goal.at.overflow_add-p c).After-halve-h)

pub quotient-requires : goal.quotient-requires
quotient-requires c =
    let b = base_bounds (goal.at.quotient-requires c).After-halve-h in
    (omega arith, omega arith)

pub returns : goal.returns
returns c = cc (times_is (goal.at.returns c).After-halve-h, argument_is (goal.at.returns c).After-quotient)
