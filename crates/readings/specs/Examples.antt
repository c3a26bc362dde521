-- Soil from readings (§9.1) at small numbers, computed.
use Rattle.std.specs.Prelude.{ℕ}
use mathlib.Core.{Path.{◌≡◌, refl}, Bool.{true, false}, List.{List, [], ◌∷◌, map}}
use Rattle.std.proofs.Math.Decide.{dec_le}
use Rattle.std.proofs.Common.{lit≤}
use Rattle.whole.specs.Whole.{ceil_div}
use Rattle.interval.specs.Operations.{natural}
use Rattle.exact.specs.Fraction.{◌≈f◌, whole, decimal, ◌+f◌, neg, ◌−f◌, ◌·f◌, inv, ◌÷f◌, dec_lef, choose, minf, maxf}
use Rattle.exact.specs.Ends.{least as least_of, greatest as greatest_of, combine, ◌+e◌, ◌−e◌, ◌·e◌, ◌÷e◌}
use Rattle.exact.specs.{Exact.{exactly, ◌+x◌, ◌−x◌, ◌·x◌, ◌÷x◌}, Pi.{alternating, arctan_term, arctan_over, π}, Depth.{Within}}
use Rattle.exact.specs.Reported.{ten, over, reported}
use Rattle.readings.specs.{declared.{Report.{Report}}, Reading.{Reading, pairs_of}}
use Rattle.readings.specs.{Limits.{in_range}, Resistivity.{apparent, lesser, greater, together, least, greatest, mean}}
use Rattle.readings.specs.{Refusal.{sound_count, number_in, first_outside, refused_at, judged, answer_of}, Report.{μΩm, width, soil_of}}
use Rattle.std.specs.Prelude.{Ok}
use Rattle.refusal.specs.{Refused.{refuse}}

-- 1 m and 10 Ω, 2 m and 3 Ω, 3 m and 1 Ω: 2π times 10, 6 and 3 Ω·m
three : List Reading
three = pairs_of (1000 ∷ 10000 ∷ 2000 ∷ 3000 ∷ 3000 ∷ 1000 ∷ [])

-- ---- exact values at depth 3, in micro-ohm metres

values : ℕ
unfolding three pairs_of apparent lesser greater together least greatest mean exactly ◌+x◌ ◌−x◌ ◌·x◌ ◌÷x◌ π arctan_over alternating arctan_term
values = 0

fractions : ℕ
unfolding least_of greatest_of combine ◌+e◌ ◌−e◌ ◌·e◌ ◌÷e◌ whole decimal neg ◌+f◌ ◌−f◌ ◌·f◌ inv ◌÷f◌ dec_lef dec_le choose minf maxf μΩm
    reported over ten natural
fractions = 0

-- 2π·3
least_three : Within (least three 3) (reported μΩm (natural 18849555 18849556))
unfolding values fractions
least_three = record { low = record { le = lit≤ tt }; high = record { le = lit≤ tt } }

-- 2π·10
greatest_three : Within (greatest three 3) (reported μΩm (natural 62831853 62831854))
unfolding values fractions
greatest_three = record { low = record { le = lit≤ tt }; high = record { le = lit≤ tt } }

-- 2π·19/3
mean_three : Within (mean three 3) (reported μΩm (natural 39793506 39793507))
unfolding values fractions
mean_three = record { low = record { le = lit≤ tt }; high = record { le = lit≤ tt } }

-- of a lower end of 3 Ω·m the ends may be 5 micro-ohm metres apart
width_is : width (reported μΩm (natural 3000000 3000000)) ≈f decimal 5 6
unfolding width fractions
width_is = record { to = record { le = lit≤ tt }; fro = record { le = lit≤ tt } }

-- 39.793508 Ω·m is 40 Ω·m, 40 Ω·m is itself
soils : soil_of (natural 39793506 39793508) ∷ soil_of (natural 39999999 40000000) ∷ soil_of (natural 40000000 40000001) ∷ [] ≡ 40 ∷ 40 ∷ 41
    ∷ []
unfolding soil_of ceil_div μΩm ten natural
soils = refl

-- ---- refusals, whatever the report

answers : ℕ
unfolding pairs_of in_range sound_count number_in first_outside refused_at judged answer_of
answers = 0

counts : map sound_count (0 ∷ 1 ∷ 2 ∷ 127 ∷ 128 ∷ 129 ∷ 130 ∷ []) ≡ false ∷ false ∷ true ∷ false ∷ true ∷ false ∷ false ∷ []
unfolding answers
counts = refl

module _ (report : List Reading → Report) where
  -- both ends of both ranges
  extreme_pairs : answer_of report (500 ∷ 1 ∷ 50000 ∷ 1000000 ∷ []) ≡ Ok (report (pairs_of (500 ∷ 1 ∷ 50000 ∷ 1000000 ∷ [])))
  unfolding answers
  extreme_pairs = refl

  no_numbers : answer_of report [] ≡ refuse 12 0 0
  unfolding answers
  no_numbers = refl

  -- an odd count comes before a distance out of range
  three_numbers : answer_of report (499 ∷ 1 ∷ 500 ∷ []) ≡ refuse 12 0 0
  unfolding answers
  three_numbers = refl

  -- a distance in pair 2 comes before a resistance in pair 1
  distance_first : answer_of report (500 ∷ 0 ∷ 499 ∷ 1 ∷ []) ≡ refuse 13 2 1
  unfolding answers
  distance_first = refl

  resistance_second : answer_of report (500 ∷ 1 ∷ 50000 ∷ 1000001 ∷ []) ≡ refuse 14 2 2
  unfolding answers
  resistance_second = refl
