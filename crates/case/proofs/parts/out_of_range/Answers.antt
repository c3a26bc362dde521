-- `case::parts::out_of_range` meets its contract: the search of proofs/Leftmost.antt.
use mathlib.Core.Path.{sym, ◌∙◌}
use Rattle.case.proofs.{Leftmost.{leftmost_start, leftmost_outside, leftmost_inside, leftmost_end}}
use Rattle.case.proofs.parts.out_of_range.Goals as goal

pub loop-k-init : goal.loop-k-init
loop-k-init c = leftmost_start _ _ _ c.requires.at_len c.requires.v_len

pub loop-k-preserved-then-not-holds : goal.loop-k-preserved-then-not-holds
loop-k-preserved-then-not-holds c =
    leftmost_outside c.loop-k.invariant c.loop-k-test.true (sym (c.range_of.ensures _) ∙ sym c.holds.ensures ∙ c.if-not-holds.true) c.left_of-c.ensures

pub loop-k-preserved : goal.loop-k-preserved
loop-k-preserved c = leftmost_inside c.loop-k.invariant c.loop-k-test.true (sym (c.range_of.ensures _) ∙ sym c.holds.ensures ∙ c.if-not-holds.false)

pub returns : goal.returns
returns c = leftmost_end c.loop-k.invariant c.loop-k-test.false
