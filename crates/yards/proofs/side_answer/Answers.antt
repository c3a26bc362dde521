-- `side_answer` refuses a side out of range, then a rod length of 0.
use mathlib.Core.Path.{ap, ◌∙◌}
use Rattle.std.specs.Prelude.{Ok}
use Rattle.case.proofs.Bounds.{record_bounds}
use Rattle.yards.specs.{Yards.{trial}, Fewest.{side_answer}}
use borrow.Author.Tests.{eq-eqb, ne_eqb, le-leb, lt-leb}
use Rattle.yards.proofs.side_answer.Goals as goal

pub returns-then-side-lt-LEAST_SIDE : goal.returns-then-side-lt-LEAST_SIDE
unfolding side_answer
returns-then-side-lt-LEAST_SIDE c = rw (lt-leb _ _ c.if-side-lt-LEAST_SIDE.true)

pub returns-then-side-gt-MOST_SIDE : goal.returns-then-side-gt-MOST_SIDE
unfolding side_answer
returns-then-side-gt-MOST_SIDE c = rw (le-leb _ _ c.if-side-lt-LEAST_SIDE.false, lt-leb _ _ c.if-side-gt-MOST_SIDE.true)

pub returns-then-c-eq0 : goal.returns-then-c-eq0
unfolding side_answer
returns-then-c-eq0 c =
    rw (le-leb _ _ c.if-side-lt-LEAST_SIDE.false, le-leb _ _ c.if-side-gt-MOST_SIDE.false, eq-eqb _ _ c.if-c-eq0.true)

pub first_safe-requires : goal.first_safe-requires
unfolding trial
first_safe-requires c = record_bounds (rw (ne_eqb _ _ c.if-c-eq0.false) at c.requires)

pub returns : goal.returns
unfolding side_answer
returns c =
    ap Ok c.first_safe.ensures
    ∙ rw (le-leb _ _ c.if-side-lt-LEAST_SIDE.false, le-leb _ _ c.if-side-gt-MOST_SIDE.false, ne_eqb _ _ c.if-c-eq0.false)
