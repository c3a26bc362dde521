-- `sheets::sheets` is safe and ends: the measure is what is left of the input.
use lib.ListN.{length}
use Rattle.sheets.proofs.sheets.Given as goal

abbrev pub invariant-loop-rest : goal.invariant-loop-rest
invariant-loop-rest g l = Unit

abbrev pub decreases-loop-rest : goal.decreases-loop-rest
decreases-loop-rest g l = length l.rest
