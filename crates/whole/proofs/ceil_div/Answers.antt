-- `ceil_div` rounds the negated number down, and negates again.
use Prim.Native.Nat.{◌<◌, ◌^◌}
use mathlib.Core.Path.{◌≡◌, ap, ◌∙◌}
use native.Mathlib.Omega.{arith}
use borrow.Author.Rules.{sfits_of}
use lib.IntN.{nat_abs, neg_ℤ}
use Rattle.whole.specs.Whole.{floor_z, ceil_z}
use Rattle.whole.proofs.{Signed.{size_neg, size_floor}, Bits.{negated_fits, negated_is}}
use Rattle.whole.proofs.ceil_div.Goals as goal
use Rattle.whole.proofs.ceil_div.Goals.{After-floor_div}

floored : (c : After-floor_div) → c.floor_div.result ≡ floor_z (neg_ℤ c.args.a) c.args.d
floored c = rw (negated_is c.ranges.a c.requires.1) at c.floor_div.ensures

small : (c : After-floor_div) → nat_abs c.floor_div.result < 2 ^ 63
small c =
    let a = c.args.a in
    rw (floored c) (omega (arith, size_floor (neg_ℤ a) c.args.d, size_neg a))

pub overflow_sub-result : goal.overflow_sub-result
overflow_sub-result c = negated_fits {z = c.floor_div.result} (sfits_of c.floor_div.type_inv) (small (goal.at.overflow_sub-result c).After-floor_div)

pub returns : goal.returns
unfolding ceil_z
returns c = negated_is {z = c.floor_div.result} (sfits_of c.floor_div.type_inv) (small (goal.at.returns c).After-floor_div) ∙ ap neg_ℤ (floored (goal.at.returns c).After-floor_div)
