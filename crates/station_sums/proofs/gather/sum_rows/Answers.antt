-- `sum_rows` adds row after row: the pass of proofs/RowSums.antt.
use Prim.Native.Nat.{◌<◌}
use mathlib.Core.Path.{ap, ◌∙◌}
use native.Mathlib.Omega.{arith}
use lib.ListN.{get_or, get_or-replicate}
use Rattle.judgement.specs.Limits.{most_lines}
use Rattle.station_sums.specs.Sums.{none, add_to}
use Rattle.station_sums.proofs.RowSums.{small_at, summing_start, summing_next}
use borrow.Author.Rules.{rules}
use Rattle.station_sums.proofs.gather.sum_rows.Goals as goal
use Rattle.station_sums.proofs.gather.sum_rows.Goals.{In-loop-i}

-- the place of a row is one of the places
place_within : (c : In-loop-i) → get_or c.args.places c.loop-i.i 0 < most_lines
place_within c = c.requires.by_index _ c.loop-i-test.true

pub loop-i-init : goal.loop-i-init
unfolding none
loop-i-init c = summing_start _ _ _ (search rules) (λ j h. get_or-replicate most_lines j none none h)

pub add-requires : goal.add-requires
unfolding none
add-requires c =
    rw (c.loop-i.invariant.at _ (place_within (goal.at.add-requires c).In-loop-i)) (small_at _ _ _ _ (omega (arith, c.requires.n_le_most_lines)))

pub loop-i-preserved : goal.loop-i-preserved
unfolding none
loop-i-preserved c =
    summing_next c.loop-i.invariant c.loop-i-test.true (place_within (goal.at.loop-i-preserved c).In-loop-i) (c.add.ensures ∙ ap (add_to _) c.entry.ensures)
