-- `first_safe` tries yard after yard: the search of proofs/Trying.antt. A break out of both loops is a return from within the inner one.
use Prim.Native.Nat.{◌+◌, ◌-◌, ◌≤◌}
use mathlib.Core.{List.{◌++◌}}
use Rattle.yards.specs.Yards.{yards_of, yards_from}
use Rattle.yards.proofs.Trying.{Trying}
use Rattle.yards.proofs.search.first_safe.Given as goal

-- rods from the k-th on are left of this count of lines, and then the greater counts
abbrev pub invariant-loop-k : goal.invariant-loop-k
invariant-loop-k l =
    (l.k ≤ 11) × Trying l.c l.side l.tried l.answer (yards_of l.c l.side l.lines l.k ++ yards_from l.c l.side (l.lines + 1))

abbrev pub decreases-loop-k : goal.decreases-loop-k
decreases-loop-k l = 11 - l.k

abbrev pub invariant-counts : goal.invariant-counts
invariant-counts l =
    (2 ≤ l.lines) × (l.lines ≤ 26) × Trying l.c l.side l.tried l.answer (yards_from l.c l.side l.lines)

abbrev pub decreases-counts : goal.decreases-counts
decreases-counts l = 26 - l.lines
