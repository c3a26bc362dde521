-- `gather` takes the pairs from the last to the first: the laws of proofs/Gathering.antt.
use Prim.Native.Nat.{◌-◌}
use mathlib.Core.{Path.{◌≡◌, refl}, List.{[]}}
use native.Mathlib.Omega.{arith}
use lib.ListN.{get_or}
use Rattle.readings.proofs.{Pairs.{numbers, pair_at, chunks_are, chunk_at}, Gathering.{gathered_start, gathered_step, gathered_end, next_bound, total_small}}
use Rattle.readings.proofs.products.gather.Goals as goal
use Rattle.readings.proofs.products.gather.Goals.{In-loop-i}

pub loop-i-init : goal.loop-i-init
loop-i-init c = rw c.as_chunks.ensures.front_len (gathered_start c.args.readings.now)

-- the pair of a turn
pair_is : (c : In-loop-i) → get_or c.as_chunks.result.0.now (c.loop-i.i - 1) [] ≡ numbers (pair_at c.args.readings.now (c.loop-i.i - 1))
pair_is c =
    rw (c.as_chunks.ensures.front, chunks_are c.args.readings.now _ refl)
    (chunk_at c.args.readings.now (c.loop-i.i - 1) (omega (arith, c.loop-i-test.true, c.loop-i.invariant.within)))

pub with-t-requires : goal.with-t-requires
with-t-requires c =
    let a = c.loop-i.invariant in
    let h = c.loop-i-test.true in
    rw (pair_is (goal.at.with-t-requires c).In-loop-i) (omega (arith, next_bound h a c.requires, total_small h a c.requires))

pub loop-i-preserved : goal.loop-i-preserved
loop-i-preserved c =
    rw (c.with-t.ensures, pair_is (goal.at.loop-i-preserved c).In-loop-i) (gathered_step c.loop-i-test.true c.loop-i.invariant)

pub returns : goal.returns
returns c = gathered_end c.loop-i.invariant (omega (arith, c.loop-i-test.false))
