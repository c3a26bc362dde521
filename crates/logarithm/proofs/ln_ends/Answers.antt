-- `logarithm::ln_ends` meets its contract, above and below 1.
use mathlib.Core.Path.{ap, ◌∙◌}
use native.Mathlib.Omega.{arith}
use borrow.Author.Tests.{lt-ltb, le-ltb}
use Rattle.interval.specs.Operations.{minus_of}
use Rattle.logarithm.specs.Ends.{down_ends, ln_ends}
use Rattle.logarithm.proofs.{LnEnds.{up_tight}}
use Rattle.logarithm.proofs.ln_ends.Goals as goal

pub minus-requires : goal.minus-requires
minus-requires c =
    let t = up_tight c.requires.1 c.requires.0 (omega arith) in
    rw c.up_ends.ensures (omega (arith, t.small))

pub returns-then-p-q : goal.returns-then-p-q
unfolding ln_ends down_ends
returns-then-p-q c = rw (lt-ltb _ _ c.if-p-q.true) (c.minus.ensures ∙ ap minus_of c.up_ends.ensures)

pub returns-else-p-q : goal.returns-else-p-q
unfolding ln_ends
returns-else-p-q c = rw (le-ltb _ _ c.if-p-q.false) c.up_ends-else-p-q.ensures
