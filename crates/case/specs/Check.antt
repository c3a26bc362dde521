-- The checks of the values of a form, and of one case: refusals 5 and 6. §1.2, §1.4, §2.1, §6.1.
use Rattle.std.specs.Prelude.{ℕ, zero, suc}
use mathlib.Core.{Bool.{Bool, cond, not, ◌&&◌}, List.{List, [], ◌∷◌}}
use lib.{ListN.{length}, Dec.{leb, eqb}}
use Rattle.case.specs.declared.{Case.{Case}, Finding.{Finding, TheVariants.{Sound, OutOfRange, Disagreement}}}
use Rattle.case.specs.{Columns.{Form, columns, in_range, named}, Case.{values}}
use Rattle.std.specs.Prelude.{Result, Ok, Err}
use Rattle.refusal.specs.{declared.Refused.{Refused}, Refused.{refuse}}

-- Below, `at` lists for each name of a form the column, from 1, in which it stands, and `v` the values in the form's order.

-- the lesser of two columns, where 0 is none
unfoldable pub left_of : ℕ → ℕ → ℕ
left_of c d = cond (eqb d 0) c (cond (leb c d) c d)

-- "value out of its range": the leftmost such column, or 0
unfoldable pub out_of_range : Form → List ℕ → List ℕ → ℕ
out_of_range [] at v = 0
out_of_range (k ∷ ks) [] v = 0
out_of_range (k ∷ ks) (c ∷ at) [] = 0
out_of_range (k ∷ ks) (c ∷ at) (x ∷ v) = cond (in_range k.range x) (out_of_range ks at v) (left_of c (out_of_range ks at v))

-- both 0 or both not 0
unfoldable pub agree : ℕ → ℕ → Bool
agree a b = cond (eqb a 0) (eqb b 0) (not (eqb b 0))

module _ (form : Form) (at v : List ℕ) where
  -- "layer and thick disagree (column of layer); rods, rodlen, place disagree (column of rods)"; layer comes before rods
  unfoldable pub disagreement : Finding
  disagreement =
      cond (agree (named form v "layer") (named form v "thick"))
      (cond (agree (named form v "rods") (named form v "rodlen") && agree (named form v "rods") (named form v "place")) Sound
      (Disagreement (named form at "rods")))
      (Disagreement (named form at "layer"))

  -- 5, then 6
  unfoldable pub finding : Finding
  finding = cond (eqb (out_of_range form at v) 0) disagreement (OutOfRange (out_of_range form at v))

unfoldable pub case_finding : List ℕ → Case → Finding
case_finding at c = finding columns at (values c)

-- ---- §6.1, one case asked as a record: "whose line is 0 and whose column is the place in the table of names"

unfoldable pub count_from : ℕ → ℕ → List ℕ
count_from first zero = []
count_from first (suc n) = first ∷ count_from (suc first) n

unfoldable pub own_places : List ℕ
own_places = count_from 1 (length columns)

unfoldable pub record_finding : Case → Finding
record_finding c = case_finding own_places c

-- refusals 5 and 6 with line 0
unfoldable pub judged_by : Finding → Result (Unit {0}) Refused
judged_by Sound = Ok tt
judged_by (OutOfRange column) = refuse 5 0 column
judged_by (Disagreement column) = refuse 6 0 column

unfoldable pub record_judged : Case → Result (Unit {0}) Refused
record_judged c = judged_by (record_finding c)

-- the answer to a record: what is asked, or the refusal with number, line and column
unfoldable pub record_answer : {A : Type 0} → Result A Refused → Result (Unit {0}) Refused → Result A Refused
record_answer asked (Ok sound) = asked
record_answer asked (Err why) = Err why
