-- A pair that encloses a consistent value, and is no wider than allowed, is a right report of it.
use Rattle.interval.specs.declared.Interval.{Interval}
use Rattle.exact.specs.{Fraction.{Fraction}, Ends.{Ends}, Exact.{Exact}, Reported.{Scale, reported, AtMost, Reports}, Depth.{Consistent}}
use Rattle.enclosure.specs.Enclosure.{Encloses}
use Rattle.enclosure.proofs.Basics.{holds, encloses_ordered}

pub reports : {x : Exact} {u : Scale} {i : Interval} (width : Ends → Fraction) → Consistent x → Encloses x u i
    → AtMost (width (reported u i)) (reported u i) → Reports x u width i
reports width c e n = record { ordered = encloses_ordered c e; holds = holds c e; narrow = n }
