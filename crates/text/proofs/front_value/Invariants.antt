-- `text::front_value` meets its contract: the reading of proofs/FirstFields.antt.
use Rattle.text.proofs.FirstFields.{Front}
use Rattle.text.proofs.front_value.Given as goal

abbrev pub invariant-loop-i : goal.invariant-loop-i
invariant-loop-i l = Front l.s l.n l.i
