-- `digit` goes up to the first digit that is too large; ten always is.
use Prim.Native.Nat.{◌+◌, ◌-◌, ◌*◌, ◌≤◌}
use Rattle.long_root.proofs.digit.Given as goal

abbrev pub invariant-loop-d : goal.invariant-loop-d
invariant-loop-d l = (20 * l.whole + (l.d - 1)) * (l.d - 1) * l.injected ≤ l.rest
