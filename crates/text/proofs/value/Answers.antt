-- `text::value` meets its contract: a field of one to six bytes that does not start with 0, or is one byte, is read as digits.
use mathlib.Core.{Path.{◌∙◌}}
use Rattle.std.proofs.Common.{rules}
use Rattle.text.proofs.{Form.{form_empty, form_long, form_zero, form_one, form_more}}
use Rattle.text.proofs.value.Goals as goal
use Rattle.text.proofs.value.Goals.{then-k-eq0-via-then-k-eq0, then-k-eq0-via-else-k-eq0+then-k-gt6, else-k-gt1-via-then-k-gt1+else-s-eq48, else-k-gt1-via-else-k-gt1}

pub returns-then-k-eq0 : goal.returns-then-k-eq0
returns-then-k-eq0 c =
    elim c.then-k-eq0.branch [
      | then-k-eq0-via-then-k-eq0 w ↦ form_empty _ w.if-k-eq0.true
      | then-k-eq0-via-else-k-eq0+then-k-gt6 w ↦ form_long _ w.if-k-gt6.true
    ]

pub returns-then-s-eq48 : goal.returns-then-s-eq48
returns-then-s-eq48 c = form_zero _ (search rules) (search rules) c.if-s-eq48.true

pub returns : goal.returns
returns c =
    c.number.ensures
    ∙ (elim c.else-k-gt1.branch [
      | else-k-gt1-via-then-k-gt1+else-s-eq48 w ↦ form_more _ (search rules) (search rules) w.if-s-eq48.false
      | else-k-gt1-via-else-k-gt1 w ↦ form_one _ (search rules) (search rules)
    ])
