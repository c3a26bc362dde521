-- `text::front_value` meets its contract: the reading of proofs/FirstFields.antt.
use Rattle.text.proofs.front_value.Goals.{then-i-eq1, else-i-eq1}
use borrow.Author.Tests.{eqb-false}
use Rattle.std.proofs.Common.{◌≡◌, length, sym, ◌∙◌, arith, rules}
use Rattle.text.proofs.FirstFields.{front_start, front_fits, front_step, front_value, difference_back}
use Rattle.text.proofs.front_value.Goals as goal

pub loop-i-init : goal.loop-i-init
loop-i-init c = front_start _

pub returns-then-d-gt9 : goal.returns-then-d-gt9
returns-then-d-gt9 c = front_value c.loop-i.invariant (omega arith) (λ h. c.if-b-ne44.false)

pub overflow_mul-n : goal.overflow_mul-n
overflow_mul-n c = omega (arith, front_fits c.loop-i.invariant)

pub overflow_add-n : goal.overflow_add-n
overflow_add-n c = omega (arith, front_fits c.loop-i.invariant)

pub loop-i-preserved : goal.loop-i-preserved
loop-i-preserved c =
    let b = difference_back _ _ c.wrapping_sub_u32-d.ensures.value (omega arith) in
    front_step c.loop-i.invariant (search rules) (omega arith) (omega arith) b
    (elim c.if-i-eq1.branch [ then-i-eq1 w ↦ λ e. eqb-false _ _ (sym w.value-is ∙ c.if-s-eq48.false) | else-i-eq1 w ↦ λ e. absurd (omega arith) ])

pub returns : goal.returns
returns c =
    let e : c.loop-i.i ≡ length c.args.s.now = omega arith in
    let some = eqb-false _ _ (sym c.is_empty.ensures ∙ c.if-is_empty.false) in
    rw e at (front_value c.loop-i.invariant (omega (arith, some)) (λ h. absurd (omega arith)))
