-- §11.1, §11.3: the operations that report numbers of their own, asked by a program in C: the numbers in an array that the caller lends,
-- the count as one number with a place.
use Rattle.std.specs.Prelude.{ℕ, List, ℤ}
use Rattle.readings.specs.Answer as readings
use Rattle.staged.specs.Answer as staged
use Rattle.one_line.specs.Answer.{SheetFewest}
use Rattle.c_tell.specs.Told.{Told}
use Rattle.c_reply.specs.Reply.{Replied, soil_reply, split_reply, fewest_reply}
use Rattle.std.specs.Prelude.{Result}
use Rattle.refusal.specs.{declared.Refused.{Refused}}
use Rattle.readings.specs.declared.Report.{Report}
use Rattle.yards.specs.declared.FewestLines.{FewestLines}

-- Two wrong programs: one that puts the greatest before the least breaks `numbers`; one that answers 6 breaks `told`.
pub record SoilTold (list : List ℕ) (before after : List ℤ) (place pointed : List ℕ) (r : ℤ) : Type 0 where
  pub answer : Result Report Refused
  pub count : Result ℕ Refused
  pub asked : readings.Answered list answer
  pub numbers : Replied (soil_reply answer) before after count
  pub told : Told count place pointed r

-- Two wrong programs: one that puts the quadrature part first breaks `numbers`; one that answers the count of the test's numbers breaks
-- `told`.
pub record SplitTold (parts before after : List ℤ) (place pointed : List ℕ) (r : ℤ) : Type 0 where
  pub count : Result ℕ Refused
  pub numbers : Replied (split_reply (staged.answer parts)) before after count
  pub told : Told count place pointed r

-- Two wrong programs: one that puts the rods first breaks `numbers`; one that answers 1 where none is safe breaks `told`.
pub record FewestTold (s : List ℕ) (side : ℕ) (before after : List ℤ) (place pointed : List ℕ) (r : ℤ) : Type 0 where
  pub answer : Result FewestLines Refused
  pub count : Result ℕ Refused
  pub asked : SheetFewest s side answer
  pub numbers : Replied (fewest_reply answer) before after count
  pub told : Told count place pointed r
