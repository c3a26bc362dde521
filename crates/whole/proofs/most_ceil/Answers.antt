-- `most_ceil` takes the lesser for the negated number, and negates again.
use Prim.Native.Nat.{◌<◌, ◌^◌}
use mathlib.Core.Path.{◌≡◌, sym, ap, ◌∙◌}
use native.Mathlib.Omega.{arith}
use borrow.Author.Rules.{sfits_of}
use lib.IntN.{nat_abs, neg_ℤ}
use Rattle.whole.specs.Whole.{floor_z, ceil_z, min_z}
use Rattle.whole.proofs.{Signed.{size_neg, size_floor}, Bits.{negated_fits, negated_is}, Choice.{min_cases}}
use Rattle.whole.proofs.{Divisors.{most_of_least}}
use Rattle.whole.proofs.most_ceil.Goals as goal
use Rattle.whole.proofs.most_ceil.Goals.{After-least_floor}

lesser : (c : After-least_floor)
    → let s = c.args in
    c.least_floor.result ≡ min_z (floor_z (neg_ℤ s.a) s.d) (floor_z (neg_ℤ s.a) s.e)
lesser c = rw (negated_is c.ranges.a c.requires.a_bound) at c.least_floor.ensures

small : (c : After-least_floor) → nat_abs c.least_floor.result < 2 ^ 63
small c =
    let s = c.args in
    let n = neg_ℤ s.a in
    let below = size_neg s.a in
    rw (lesser c)
    (min_cases (λ z. nat_abs z < 2 ^ 63) (floor_z n s.d) (floor_z n s.e)
    (λ h. omega (arith, size_floor n s.d, below, c.requires.a_bound))
    (λ h. omega (arith, size_floor n s.e, below, c.requires.a_bound)))

pub overflow_sub-result : goal.overflow_sub-result
overflow_sub-result c = negated_fits {z = c.least_floor.result} (sfits_of c.least_floor.type_inv) (small (goal.at.overflow_sub-result c).After-least_floor)

pub returns : goal.returns
unfolding ceil_z
returns c =
    negated_is {z = c.least_floor.result} (sfits_of c.least_floor.type_inv) (small (goal.at.returns c).After-least_floor) ∙ ap neg_ℤ (lesser (goal.at.returns c).After-least_floor)
    ∙ sym (most_of_least (neg_ℤ c.args.a) c.requires.d_nonzero.0 c.requires.d_nonzero.1)
