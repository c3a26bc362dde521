-- `is_marked` compares every mark.
use Rattle.appearance.proofs.Marks.{Marking}
use Rattle.appearance.proofs.is_marked.Given as goal

abbrev pub invariant-loop-here : goal.invariant-loop-here
invariant-loop-here l = Marking l.marks l.mark l.found l.here-index
