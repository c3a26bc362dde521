-- `logarithm::argument::quotient` meets its contract: what i digits of the quotient are, and the remainder below d.
use native.Mathlib.Omega.{arith}
use Rattle.logarithm.proofs.Digits.{digits_again, digits_few, digits_next}
use Rattle.logarithm.proofs.argument.quotient.Goals as goal

pub overflow_mul-z : goal.overflow_mul-z
overflow_mul-z c = omega (arith, digits_few c.requires.0 c.loop-i.invariant c.loop-i-test.true)

pub overflow_add-z : goal.overflow_add-z
overflow_add-z c =
    let s = c.loop-i.invariant in
    omega (arith, digits_few c.requires.0 s c.loop-i-test.true, digits_next s.small)

pub loop-i-preserved : goal.loop-i-preserved
loop-i-preserved c = digits_again c.loop-i.invariant
