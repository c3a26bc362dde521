-- `logarithm::argument::quotient` meets its contract: what i digits of the quotient are, and the remainder below d.
use Rattle.logarithm.proofs.Digits.{Digits}
use Rattle.logarithm.proofs.argument.quotient.Given as goal

abbrev pub invariant-loop-i : goal.invariant-loop-i
invariant-loop-i l = Digits l.n l.d l._i l.z l.rest
