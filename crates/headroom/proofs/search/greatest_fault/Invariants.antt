-- `greatest_fault` is the search of proofs/Bracket.antt. The measure counts the turns that are left, at most 23.
use Prim.Native.Nat.{◌-◌}
use Rattle.headroom.proofs.Bracket.{Bracket}
use Rattle.headroom.proofs.{Turns.{turns_left}}
use Rattle.headroom.proofs.search.greatest_fault.Given as goal

abbrev pub invariant-loop-over : goal.invariant-loop-over
invariant-loop-over l = Bracket l.c l.safe l.over

abbrev pub decreases-loop-over : goal.decreases-loop-over
decreases-loop-over l = turns_left l.guesses (l.over - l.safe)
