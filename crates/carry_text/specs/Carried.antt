-- What the programs `carry` and `carry_back` print: the sheet of its cases in the other form, or the refusal. §8.2, §8.3: "The source sheet
-- passes all checks of its own form first, save 8", and "on the way back a line is then refused, with its line and column 0".
use Rattle.std.specs.Prelude.{ℕ, List}
use Rattle.case.specs.{declared.Form.{Form}, Parts.{form_of}}
use Rattle.judgement.specs.Sheet.{judgement}
use Rattle.carried_values.specs.{Values.{other, cases_in}, Changes.{changes}}
use Rattle.conversion.specs.Answer.{carried_text}
use Rattle.fields.specs.Refusal.{unless_refused}

unfoldable pub carry_text : Form → List ℕ → List ℕ
carry_text form s =
    unless_refused (judgement (form_of (other form)) s) (unless_refused (changes form (cases_in (form_of (other form)) s)) (carried_text form s))
