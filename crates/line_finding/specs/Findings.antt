-- What the checks of a value line find. §1.6, §2.1, §2.2.
use Rattle.std.specs.Prelude.{ℕ}
use mathlib.Core.{Bool.{Bool, false, cond, ◌&&◌, ◌||◌}, List.{List, [], ◌∷◌}}
use lib.{Dec.{eqb}, ListN.{length}}
use Rattle.case.specs.{declared.Finding.{Finding}, Columns.{Form, named}, Check.{finding}}
use Rattle.case.specs.declared.Finding.TheVariants as found
use Rattle.line.specs.Line.{wrong_form, line_values}
use Rattle.line_finding.specs.declared.LineFinding.{LineFinding}
use Rattle.line_finding.specs.declared.LineFinding.TheVariants.{Sound, Form as WrongForm, OutOfRange, Disagreement, Repeated}

-- 5 and 6, or what follows where the values are sound
unfoldable pub or_finding : Finding → LineFinding → LineFinding
or_finding found.Sound next = next
or_finding (found.OutOfRange column) next = OutOfRange column
or_finding (found.Disagreement column) next = Disagreement column

module _ (form : Form) where
  -- station and season of some values equal those of others
  unfoldable pub same_key : List ℕ → List ℕ → Bool
  same_key v w = eqb (named form v "station") (named form w "station") && eqb (named form v "season") (named form w "season")

  -- "station and season both equal those of an earlier line"
  unfoldable pub repeats : List ℕ → List (List ℕ) → Bool
  repeats v [] = false
  repeats v (e ∷ earlier) = same_key v e || repeats v earlier

  -- 3, 5, 6, 7 of a line's fields, after the values of earlier lines
  unfoldable pub line_finding : List ℕ → List (List ℕ) → List (List ℕ) → LineFinding
  line_finding at earlier fields =
      cond (eqb (wrong_form (length form) 1 fields) 0)
      (or_finding (finding form at (line_values at fields)) (cond (repeats (line_values at fields) earlier) Repeated Sound))
      (WrongForm (wrong_form (length form) 1 fields))
