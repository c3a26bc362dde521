-- `wide_count` is one more than the logarithm to base ten; 0 has a digit, as 1 has.
use native.Mathlib.Omega.{arith}
use Rattle.writing.proofs.Decimal.{count_log}
use Rattle.writing.proofs.wide_count.Goals as goal

pub returns-clause-count : goal.returns-clause-count
returns-clause-count c =
    count_log c.args.n _ (omega arith) (rw c.max.ensures at c.ilog10.ensures.power_le) (rw c.max.ensures at c.ilog10.ensures.next_power_gt)
