-- §11.3: the numbers of one value line, by what is asked: margins, working, headroom.
use Rattle.std.specs.Prelude.{ℕ}
use mathlib.Core.{Path.{◌≡◌}, List.{List, [], ◌∷◌}}
use Rattle.std.specs.Prelude.{ℤ, pos}
use Rattle.case.specs.declared.Case.{Case}
use Rattle.row.specs.{Row.{numbers}, Ends.{row_of}}
use Rattle.margin.specs.Margin.{margins_of}
use Rattle.working.specs.{Ends.{working_of}, Numbers.{working_numbers}, Working.{RightWorking}}
use Rattle.headroom.specs.Headroom as room
use Rattle.c_line.specs.declared.Question.{Question, TheVariants.{Margins, Working, Headroom}}
use Rattle.std.specs.Prelude.{Some, None}

-- how many numbers a line has
unfoldable pub width_of : Question → ℕ
width_of Margins = 2
width_of Working = 30
width_of Headroom = 1

-- the margins of the case's row: of the mesh voltage, then of the step voltage
pub record MarginsLine (c : Case) (part : List ℤ) : Type 0 where
  pub mesh : ℤ
  pub step : ℤ
  pub is : part ≡ mesh ∷ step ∷ []
  pub margins : margins_of (numbers (row_of c)) ≡ Some (mesh, step)

-- the working of the case, which is right
pub record WorkingLine (c : Case) (part : List ℤ) : Type 0 where
  pub is : part ≡ working_numbers (working_of c)
  pub right : RightWorking c (working_of c)

-- the greatest fault current at which the case, all else equal, is answered safe, or 0 where none is
pub record HeadroomLine (c : Case) (part : List ℤ) : Type 0 where
  pub fault : ℕ
  pub is : part ≡ pos fault ∷ []
  pub right : room.RightFault c fault

-- some numbers are those of a case
unfoldable pub LineOf : Question → Case → List ℤ → Type 0
LineOf Margins c part = MarginsLine c part
LineOf Working c part = WorkingLine c part
LineOf Headroom c part = HeadroomLine c part
