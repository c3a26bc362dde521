-- §11.1, §11.3: the operations that fill the caller's arrays, asked by a program in C. What each leaves in the arrays is the operation's
-- own promise, in the words of its crate; its answer is reported as one number with a place.
use Rattle.std.specs.Prelude.{ℕ, List, ℤ}
use Rattle.case.specs.declared.Form.{Form}
use Rattle.conversion.specs.Answer as conversion
use Rattle.stations.specs.{Answer.{SummaryAnswered}}
use Rattle.release.specs.Answer.{ReleaseAnswered}
use Rattle.c_tell.specs.Told.{Told}
use Rattle.c_reply.specs.Stations.{station_count}
use Rattle.std.specs.Prelude.{Result}
use Rattle.refusal.specs.{declared.Refused.{Refused}}
use Rattle.stations.specs.declared.Counts.{Counts}

-- Two wrong programs: one that answers the count of rows breaks `told`; one that writes a row before a refusal breaks `asked`.
pub record SummaryTold (s : List ℕ) (rowsBefore rowsAfter before after : List ℤ) (place pointed : List ℕ) (r : ℤ) : Type 0 where
  pub answer : Result Counts Refused
  pub asked : SummaryAnswered s rowsBefore rowsAfter before after answer
  pub told : Told (station_count answer) place pointed r

-- Two wrong programs: one that answers the count of the licence's numbers breaks `told`; one that takes the licence for the sheet's
-- stations breaks `asked`.
pub record ReleaseTold (s licence : List ℕ) (before after : List ℤ) (place pointed : List ℕ) (r : ℤ) : Type 0 where
  pub answer : Result ℕ Refused
  pub asked : ReleaseAnswered s licence before after answer
  pub told : Told answer place pointed r

-- a sheet carried over to a form. Two wrong programs: one that carries to the other form breaks `asked`; one that answers the buffer's
-- length breaks `told`.
pub record CarryTold (form : Form) (s before after place pointed : List ℕ) (r : ℤ) : Type 0 where
  pub answer : Result ℕ Refused
  pub asked : conversion.Answered form s before after answer
  pub told : Told answer place pointed r
