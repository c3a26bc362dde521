-- What a report is. §9.1: "The report gives the ends of the least, the greatest and the mean over all pairs in micro-ohm metres, at most
-- 1/1,000,000 of the lower end plus 2 apart, and the upper mean rounded up to whole ohm metres for the soil column."
use Rattle.std.specs.Prelude.{ℕ}
use mathlib.Core.{Path.{◌≡◌}, List.{List}}
use Rattle.std.specs.Prelude.{nat_abs}
use Rattle.whole.specs.Whole.{ceil_div}
use Rattle.interval.specs.declared.Interval.{Interval}
use Rattle.exact.specs.{Fraction.{Fraction, decimal, ◌+f◌, ◌·f◌}, Ends.{Ends}, Reported.{Scale, ten, Reports}}
use Rattle.readings.specs.{declared.Report.{Report}, Reading.{Reading}}
use Rattle.readings.specs.Resistivity as Resistivity

-- micro-ohm metres
unfoldable pub μΩm : Scale
μΩm = ten 6

-- "at most 1/1,000,000 of the lower end plus 2 apart"
unfoldable pub width : Ends → Fraction
width A = decimal 1 6 ·f A.lower +f decimal 2 6

-- "the upper mean rounded up to whole ohm metres"
unfoldable pub soil_of : Interval → ℕ
soil_of mean = ceil_div (nat_abs mean.upper) μΩm.count

-- "A mean outside that column's range is still reported": nothing else is required of the soil
pub record RightReport (ps : List Reading) (r : Report) : Type 0 where
  pub least : Reports (Resistivity.least ps) μΩm width r.least
  pub greatest : Reports (Resistivity.greatest ps) μΩm width r.greatest
  pub mean : Reports (Resistivity.mean ps) μΩm width r.mean
  pub soil : r.soil ≡ soil_of r.mean
