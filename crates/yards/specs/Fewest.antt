-- The first safe yard. §6.7.
use Rattle.std.specs.Prelude.{ℕ, suc, ◌≤◌, ◌<◌, Result, Ok, Err}
use mathlib.Core.{Path.{◌≡◌}, Bool.{cond, ◌&&◌}, List.{List, [], ◌∷◌}}
use lib.{Dec.{leb, eqb}, ListN.{length, get_or}}
use Rattle.refusal.specs.{declared.Refused.{Refused}, Refused.{refuse}}
use Rattle.case.specs.{declared.Case.{Case}, Check.{record_judged, record_answer}}
use Rattle.decision.specs.declared.Verdict.TheVariants.{Safe}
use Rattle.row.specs.{Row.{RightRow}, Ends.{row_of}}
use Rattle.yards.specs.{declared.FewestLines.{FewestLines, TheVariants.{Found, None}}, Yards.{yard, yards, trial, is_safe}}

-- the first safe of the yards that are left, after some were tried
unfoldable pub first_safe : ℕ → List Case → FewestLines
first_safe tried [] = None tried
first_safe tried (y ∷ ys) = cond (is_safe y) (Found y.across y.rods (suc tried)) (first_safe (suc tried) ys)

unfoldable pub fewest : Case → ℕ → FewestLines
fewest c side = first_safe 0 (yards c side)

-- "a square side in mm (2,500..720,000)"
abbrev pub least_side : ℕ
least_side = 2500

abbrev pub most_side : ℕ
most_side = 720000

-- "15 when the side is out of range; 16 when the rod length is 0"
unfoldable pub side_answer : Case → ℕ → Result FewestLines Refused
side_answer c side =
    cond (leb least_side side && leb side most_side) (cond (eqb c.rodlen 0) (refuse 16 0 0) (Ok (fewest c side))) (refuse 15 0 0)

-- "its other values follow document 01's checks for one case, which come first"
unfoldable pub answer : Case → ℕ → Result FewestLines Refused
answer c side = record_answer (side_answer c side) (record_judged (trial c))

-- ---- what holds of an answer

-- a yard that the checks of one case find sound, so that it is answered with its row, and the row is right
pub record AnsweredYard (y : Case) : Type 0 where
  pub sound : record_judged y ≡ Ok tt
  pub right : RightRow y (row_of y)

-- "stop at the first yard answered safe. The answer gives that yard's line and rod counts."; "The number of yards tried is reported, at
-- most 264"
pub record RightFound (c : Case) (side lines rods tried : ℕ) : Type 0 where
  pub answered : AnsweredYard (yard c side lines rods)
  pub safe : (row_of (yard c side lines rods)).verdict ≡ Safe
  pub most : tried ≤ 264

-- "None is answered only if no yard tried is safe."
pub record RightNone (c : Case) (side tried : ℕ) : Type 0 where
  pub answered : (i : ℕ) → i < length (yards c side) → AnsweredYard (get_or (yards c side) i c)
  pub none_safe : (i : ℕ) → i < length (yards c side) → ¬ ((row_of (get_or (yards c side) i c)).verdict ≡ Safe)
  pub most : tried ≤ 264

-- nothing is required of a refusal here
unfoldable pub RightAnswer : Case → ℕ → Result FewestLines Refused → Type 0
RightAnswer c side (Ok (Found lines rods tried)) = RightFound c side lines rods tried
RightAnswer c side (Ok (None tried)) = RightNone c side tried
RightAnswer c side (Err why) = Unit {0}

-- the answer by the list of yards, and what holds of it. Two wrong programs: one that begins with three lines breaks `answer`; one that
-- takes an undecided yard for safe, by that name, breaks `right`.
pub record FewestAnswered (c : Case) (side : ℕ) (r : Result FewestLines Refused) : Type 0 where
  pub answer : r ≡ answer c side
  pub right : RightAnswer c side r
