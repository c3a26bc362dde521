-- `means_safe` goes by the verdict.
use Rattle.yards.specs.Yards.{means_safe}
use borrow.Author.Rules.{rules}
use Rattle.yards.proofs.yard.means_safe.Goals as goal

pub returns-in-Safe : goal.returns-in-Safe
unfolding means_safe
returns-in-Safe c = search rules

pub returns-in-Unsafe : goal.returns-in-Unsafe
unfolding means_safe
returns-in-Unsafe c = search rules

pub returns-in-Undecided : goal.returns-in-Undecided
unfolding means_safe
returns-in-Undecided c = search rules
