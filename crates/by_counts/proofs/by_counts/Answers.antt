-- `by_counts` gives what the entry holds.
use native.Mathlib.Omega.{arith}
use Rattle.interval.specs.Operations.{natural, size}
use Rattle.by_counts.proofs.by_counts.Goals as goal

pub minus-requires : goal.minus-requires
unfolding size natural
minus-requires c = rw c.ends-2.ensures (omega arith)

pub returns : goal.returns
returns c =
    let h = c.entry_of-e.ensures in
    cc (h.number, h.spread, h.inner, h.half)
