-- `in_range` tests both ends of the range.
use Rattle.std.proofs.Common.{rules}
use Rattle.readings.specs.Limits.{in_range}
use Rattle.readings.proofs.outside.in_range.Goals as goal

pub returns : goal.returns
unfolding in_range
returns c = search rules
