-- `exponential::exp_ends` meets its contract, below 22 and from 22 on.
use borrow.Author.Tests.{lt-ltb, le-ltb}
use Rattle.exponential.specs.Ends.{exp_ends}
use Rattle.exponential.proofs.exp_ends.Goals as goal

pub returns-then-a-lt-LARGE : goal.returns-then-a-lt-LARGE
unfolding exp_ends
returns-then-a-lt-LARGE c = rw (lt-ltb _ _ c.if-a-lt-LARGE.true) c.near_ends.ensures

pub returns-else-a-lt-LARGE : goal.returns-else-a-lt-LARGE
unfolding exp_ends
returns-else-a-lt-LARGE c = rw (le-ltb _ _ c.if-a-lt-LARGE.false) c.natural.ensures
