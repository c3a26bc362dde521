-- `logarithm::logarithm` meets its contract.
use mathlib.Core.{Path.{◌≡◌, sym, ap, ◌∙◌}, Bool.{true, false}}
use Rattle.exact.specs.Answered.{RightPair}
use Rattle.logarithm.specs.Asked.{inside, refused, answer_of}
use Rattle.logarithm.proofs.{RightEnds.{right_ends, inside_known}}
use Rattle.logarithm.proofs.logarithm.Goals as goal
use Rattle.logarithm.proofs.logarithm.Goals.{Else-not-is_inside, Else-not-is_inside-2, Then-not-is_inside, Then-not-is_inside-2}
use Rattle.std.specs.Prelude.{Ok}

-- what the two tests found
upper_outside : (c : Then-not-is_inside) → inside c.args.p ≡ false
upper_outside c = sym c.is_inside.ensures ∙ c.if-not-is_inside.true

upper_inside : (c : Else-not-is_inside) → inside c.args.p ≡ true
upper_inside c = sym c.is_inside.ensures ∙ c.if-not-is_inside.false

lower_outside : (c : Then-not-is_inside-2) → inside c.args.q ≡ false
lower_outside c = sym c.is_inside-2.ensures ∙ c.if-not-is_inside-2.true

lower_inside : (c : Else-not-is_inside-2) → inside c.args.q ≡ true
lower_inside c = sym c.is_inside-2.ensures ∙ c.if-not-is_inside-2.false

pub returns-then-not-is_inside : goal.returns-then-not-is_inside
unfolding answer_of refused RightPair
returns-then-not-is_inside c = record { answer = rw (upper_outside (goal.at.returns-then-not-is_inside c).Then-not-is_inside); right = tt }

pub returns-then-not-is_inside-2 : goal.returns-then-not-is_inside-2
unfolding answer_of refused RightPair
returns-then-not-is_inside-2 c = record { answer = rw (upper_inside (goal.at.returns-then-not-is_inside-2 c).Else-not-is_inside, lower_outside (goal.at.returns-then-not-is_inside-2 c).Then-not-is_inside-2); right = tt }

pub ln_ends-requires : goal.ln_ends-requires
ln_ends-requires c = (inside_known _ (upper_inside (goal.at.ln_ends-requires c).Else-not-is_inside), inside_known _ (lower_inside (goal.at.ln_ends-requires c).Else-not-is_inside-2))

pub returns : goal.returns
unfolding answer_of RightPair
returns c =
    let p = upper_inside (goal.at.returns c).Else-not-is_inside in
    let q = lower_inside (goal.at.returns c).Else-not-is_inside-2 in
    record {
      answer = rw (p, q) (ap Ok c.ln_ends.ensures);
      right = rw c.ln_ends.ensures (right_ends (inside_known _ p) (inside_known _ q));
    }
