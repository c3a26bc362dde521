-- `work_report` works the three pairs of ends and the soil from one gathering of the pairs.
use Prim.Native.Nat.{ℕ, ◌*◌, ◌/◌, ◌≤◌, ◌<◌}
use mathlib.Core.{Path.{ap}, List.{List}}
use native.Mathlib.Omega.{arith}
use lib.{ListN.{length}}
use Rattle.readings.specs.{declared.products.Products.{Products}, Reading.{pairs_of}, Taken.{most_pairs, most_product, Taken}}
use Rattle.readings.specs.Ends.{report_of}
use Rattle.readings.proofs.{Pairs.{pair_count}, Bounds.{least_bound, greatest_bound, total_bound}, Spans.{ends_span}}
use Rattle.readings.proofs.work_report.Goals as goal
use Rattle.readings.proofs.work_report.Goals.{After-gather-t}

-- the count of the pairs, and the bounds of what is gathered
module _ (c : After-gather-t) where
  abbrev numbers : List ℕ
  numbers = c.args.readings.now

  taken : Taken numbers
  taken = c.requires

  some : 0 < length numbers / 2
  some = omega (arith, taken.some, pair_count numbers)

  few : length numbers / 2 ≤ most_pairs
  few = omega (arith, taken.few, pair_count numbers)

  least_high : c.gather-t.result.least ≤ most_product
  least_high = rw c.gather-t.ensures (least_bound (pairs_of numbers) taken.some taken.bounded)

  greatest_high : c.gather-t.result.greatest ≤ most_product
  greatest_high = rw c.gather-t.ensures (greatest_bound (pairs_of numbers) taken.bounded)

  total_high : c.gather-t.result.total ≤ length numbers / 2 * most_product
  total_high =
      let e = ap (λ (t : Products). t.total) c.gather-t.ensures in
      omega (arith, e, total_bound (pairs_of numbers) taken.bounded, pair_count numbers)

pub ends-mean-requires : goal.ends-mean-requires
ends-mean-requires c = record { count_nonzero = (some (goal.at.ends-mean-requires c).After-gather-t, few (goal.at.ends-mean-requires c).After-gather-t); s_bound = total_high (goal.at.ends-mean-requires c).After-gather-t }

pub ends-requires-clause-s_bound : goal.ends-requires-clause-s_bound
ends-requires-clause-s_bound c = least_high (goal.at.ends-requires-clause-s_bound c).After-gather-t

pub ends-requires-2-clause-s_bound : goal.ends-requires-2-clause-s_bound
ends-requires-2-clause-s_bound c = greatest_high (goal.at.ends-requires-2-clause-s_bound c).After-gather-t

pub whole-requires : goal.whole-requires
whole-requires c =
    rw c.ends-mean.ensures (ends_span _ (some (goal.at.whole-requires c).After-gather-t) (few (goal.at.whole-requires c).After-gather-t) (total_high (goal.at.whole-requires c).After-gather-t))

pub returns : goal.returns
unfolding report_of
returns c =
    cc (pair_count (numbers (goal.at.returns c).After-gather-t))
