-- `gate::held::numbers_kept` is safe: no more are counted than are passed.
use Rattle.std.proofs.Common.{◌≤◌}
use Rattle.gate.proofs.held.numbers_kept.Given as goal

abbrev pub invariant-loop-i : goal.invariant-loop-i
invariant-loop-i l = l.n ≤ l.i
