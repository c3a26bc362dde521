-- `find_stations` places row after row: the pass of proofs/Appearing.antt, with the marks of proofs/Marks.antt.
use mathlib.Core.{Path.{◌≡◌}}
use lib.ListN.{length}
use Rattle.judgement.specs.Limits.{most_lines}
use Rattle.appearance.specs.Places.{Marked}
use Rattle.appearance.proofs.Appearing.{Placing}
use Rattle.appearance.proofs.find_stations.Given as goal

abbrev pub invariant-loop-i : goal.invariant-loop-i
invariant-loop-i l =
    Placing l.table l.n l.i l.known l.places l.count × (length l.marks ≡ most_lines) × Marked l.known l.marks l.count
