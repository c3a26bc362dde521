-- What is reported is one number each. §5.1: "At each depth k from 3 up, every formula has two ends that are fractions." Without this a
-- formula's ends might stay apart, and two pairs that hold it need not meet.
use Rattle.std.specs.Prelude.{List}
use Rattle.case.specs.declared.Case.{Case}
use Rattle.formulas.specs.{Lengths.{n}, Decrement.{Df}, Current.{IG}, Tolerable.{tolerable_touch, tolerable_step}}
use Rattle.formulas.specs.Mesh
use Rattle.formulas.specs.Step
use Rattle.formulas.specs.Resistance
use Rattle.readings.specs.Reading.{Reading}
use Rattle.readings.specs.Resistivity
use Rattle.numbers.specs.Number.{Number}

-- every formula that a row reports, and the number of conductors
pub record CaseNumbers (c : Case) : Type 0 where
  pub factor : Number (Df c)
  pub current : Number (IG c)
  pub tolerable_touch_lem : Number (tolerable_touch c)
  pub tolerable_step_lem : Number (tolerable_step c)
  pub mesh : Number (Mesh.mesh c)
  pub step : Number (Step.step c)
  pub resistance : Number (Resistance.resistance c)
  pub rise : Number (Resistance.potential_rise c)
  pub conductors : Number (n c)

-- the apparent resistivity of a pair of readings, and its least, greatest and mean over a list
pub record ReadingNumbers (ps : List Reading) : Type 0 where
  pub apparent : (p : Reading) → Number (Resistivity.apparent p)
  pub least : Number (Resistivity.least ps)
  pub greatest : Number (Resistivity.greatest ps)
  pub mean : Number (Resistivity.mean ps)
