-- `changes_of` goes line by line: the search of proofs/LineChanges.antt.
use Prim.Native.Nat.{◌-◌, ◌≤◌}
use Rattle.tables.{specs.Parts.{parts_of}}
use Rattle.case.specs.Columns.{name_count}
use Rattle.carried_values.proofs.LineChanges.{Changing}
use Rattle.carried_values.proofs.changes.changes_of.Given as goal

abbrev pub invariant-loop-i : goal.invariant-loop-i
invariant-loop-i l = Changing (parts_of name_count l.n l.values) l.i × (l.i ≤ l.n)

abbrev pub decreases-loop-i : goal.decreases-loop-i
decreases-loop-i l = l.n - l.i
