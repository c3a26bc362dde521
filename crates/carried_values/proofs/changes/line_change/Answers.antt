-- `line_change` tests the times, the counts and the frequency in their order, by the laws of proofs/LineChanges.antt.
use Rattle.carried_values.proofs.LineChanges.{shock_differs, wire_differs, counts_differ, hertz_differs, none_differs}
use Rattle.carried_values.proofs.changes.line_change.Goals as goal

pub returns-then-v : goal.returns-then-v
returns-then-v c = shock_differs _ _ _ c.if-v.true

pub returns-then-v-2 : goal.returns-then-v-2
returns-then-v-2 c = wire_differs _ _ _ c.if-v.false c.if-v-2.true

pub returns-then-v-3 : goal.returns-then-v-3
returns-then-v-3 c = counts_differ _ _ _ c.if-v.false c.if-v-2.false c.if-v-3.true

pub returns-then-v-ne-FORMER_HZ : goal.returns-then-v-ne-FORMER_HZ
returns-then-v-ne-FORMER_HZ c =
    hertz_differs _ _ _ c.if-v.false c.if-v-2.false c.if-v-3.false c.if-v-ne-FORMER_HZ.true

pub returns : goal.returns
returns c =
    none_differs _ _ _ c.if-v.false c.if-v-2.false c.if-v-3.false c.if-v-ne-FORMER_HZ.false
