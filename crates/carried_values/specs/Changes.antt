-- What the former form cannot say. §8.3: "On the way back a line is then refused, with its line and column 0".
use Rattle.std.specs.Prelude.{ℕ, suc}
use mathlib.Core.{Bool.{cond, ◌&&◌}, List.{List, [], ◌∷◌}}
use Rattle.std.specs.Prelude.{eqb}
use Rattle.case.specs.{declared.Form.{Form, TheVariants.{Present, Former}}, Columns.{columns, named}}
use Rattle.std.specs.Prelude.{Result, Ok}
use Rattle.refusal.specs.{declared.Refused.{Refused}, Refused.{refuse}}

-- "9 when its three times are not equal; 10 when across and along differ; 11 when hz is not 60; in that order on each line", or what
-- follows
unfoldable pub line_change : ℕ → Result (Unit {0}) Refused → List ℕ → Result (Unit {0}) Refused
line_change line next v =
    cond (eqb (named columns v "shock") (named columns v "clear") && eqb (named columns v "clear") (named columns v "wire"))
    (cond (eqb (named columns v "across") (named columns v "along"))
    (cond (eqb (named columns v "hz") 60) next (refuse 11 line 0))
    (refuse 10 line 0))
    (refuse 9 line 0)

-- line by line from a line on
unfoldable pub changes_from : ℕ → List (List ℕ) → Result (Unit {0}) Refused
changes_from line [] = Ok tt
changes_from line (v ∷ vs) = line_change line (changes_from (suc line) vs) v

-- on the way to a form
unfoldable pub changes : Form → List (List ℕ) → Result (Unit {0}) Refused
changes Present vs = Ok tt
changes Former vs = changes_from 2 vs
