-- `split` makes the checks in their order.
use mathlib.Core.{Path.{◌≡◌, sym, ap, ◌∙◌}, Bool.{false}}
use Rattle.std.specs.Prelude.{Ok}
use lib.ListN.{length}
use Rattle.staged.specs.{Check.{bad_count, any_outside, none_injected}, Answer.{answer}}
use Rattle.staged.proofs.split.Goals as goal
use Rattle.staged.proofs.split.Goals.{Else-bad_count, Else-none, Else-outside}

pub returns-then-bad_count : goal.returns-then-bad_count
unfolding answer
returns-then-bad_count c = rw (sym c.bad_count.ensures ∙ c.if-bad_count.true)

count_passed : (c : Else-bad_count) → bad_count (length c.args.parts.now) ≡ false
count_passed c = sym c.bad_count.ensures ∙ c.if-bad_count.false

pub none_injected-none-requires : goal.none_injected-none-requires
none_injected-none-requires c = count_passed (goal.at.none_injected-none-requires c).Else-bad_count

pub returns-then-outside : goal.returns-then-outside
unfolding answer
returns-then-outside c =
    rw (count_passed (goal.at.returns-then-outside c).Else-bad_count, sym c.any_outside-outside.ensures ∙ c.if-outside.true)

range_passed : (c : Else-outside) → any_outside c.args.parts.now ≡ false
range_passed c = sym c.any_outside-outside.ensures ∙ c.if-outside.false

pub returns-then-none : goal.returns-then-none
unfolding answer
returns-then-none c =
    rw (count_passed (goal.at.returns-then-none c).Else-bad_count, range_passed (goal.at.returns-then-none c).Else-outside, sym c.none_injected-none.ensures ∙ c.if-none.true)

injected_passed : (c : Else-none) → none_injected c.args.parts.now ≡ false
injected_passed c = sym c.none_injected-none.ensures ∙ c.if-none.false

pub measured-requires : goal.measured-requires
measured-requires c =
    record { count = count_passed (goal.at.measured-requires c).Else-bad_count; range = range_passed (goal.at.measured-requires c).Else-outside; injected = injected_passed (goal.at.measured-requires c).Else-none }

pub returns : goal.returns
unfolding answer
returns c =
    rw (count_passed (goal.at.returns c).Else-bad_count, range_passed (goal.at.returns c).Else-outside, injected_passed (goal.at.returns c).Else-none) (ap Ok c.measured.ensures)
