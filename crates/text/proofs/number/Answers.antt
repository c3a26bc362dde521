-- `text::number` meets its contract: the reading of digits of proofs/Digits.antt.
use Rattle.std.proofs.Common.{sym, ◌∙◌, arith, rules}
use Rattle.text.specs.Value.{digit}
use Rattle.text.proofs.Digits.{reading_start, reading_fits, reading_other, reading_step, reading_end}
use Rattle.text.proofs.number.Goals as goal

pub loop-b-init : goal.loop-b-init
loop-b-init c = reading_start _

pub returns-then-not-is_ascii_digit : goal.returns-then-not-is_ascii_digit
unfolding digit
returns-then-not-is_ascii_digit c =
    reading_other c.loop-b.invariant (search rules) (sym c.is_ascii_digit.ensures.value ∙ c.if-not-is_ascii_digit.true)

pub overflow_mul-n : goal.overflow_mul-n
overflow_mul-n c = omega (arith, reading_fits c.loop-b.invariant c.requires (search rules))

pub overflow_add-n : goal.overflow_add-n
overflow_add-n c = omega (arith, reading_fits c.loop-b.invariant c.requires (search rules))

pub loop-b-preserved : goal.loop-b-preserved
unfolding digit
loop-b-preserved c = reading_step c.loop-b.invariant (search rules) (sym c.is_ascii_digit.ensures.value ∙ c.if-not-is_ascii_digit.false)

pub returns : goal.returns
returns c = reading_end c.loop-b.invariant (omega arith)
