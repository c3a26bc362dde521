-- §4.6, §4.7: the ends of ρ·Ki·IG, which mesh and step voltage share, by whole-number intervals. These name the free part of the answers:
-- callers use only their laws.
use Rattle.std.specs.Prelude.{◌^◌}
use Rattle.interval.specs.{declared.Interval.{Interval}, Operations.{scaled_of, product_of}}
use Rattle.case.specs.declared.Case.{Case}
use Rattle.effective_number.specs.Number.{n_ends, ki_ends}
use Rattle.current.specs.Ends.{ig_ends}

-- n of a case, in 10^−7
abbrev pub number_of : Case → Interval
number_of c = n_ends c.across c.along

-- ρ·IG in 10^−6
unfoldable pub soil_current : Case → Interval
soil_current c = scaled_of (ig_ends c) c.soil

-- ρ·Ki·IG in 10^−9
unfoldable pub drive_ends : Case → Interval
drive_ends c = product_of (ki_ends (number_of c)) (soil_current c) (10 ^ 7)
