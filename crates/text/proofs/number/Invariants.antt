-- `text::number` meets its contract: the reading of digits of proofs/Digits.antt.
use Rattle.text.proofs.Digits.{Reading}
use Rattle.text.proofs.number.Given as goal

abbrev pub invariant-loop-b : goal.invariant-loop-b
invariant-loop-b l = Reading l.s l.n l.b-index
