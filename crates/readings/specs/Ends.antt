-- §9.1: the ends that the code computes, by whole numbers. These name the free part of the answers: callers use only their laws.
use Rattle.std.specs.Prelude.{ℕ, ◌+◌, ◌*◌, ◌/◌, ◌^◌, min, max, List, [], ◌∷◌}
use lib.{IntN.{pos}, ListN.{length}}
use Rattle.interval.specs.{declared.Interval.{Interval}, Operations.{natural, point, product_of}}
use Rattle.readings.specs.{declared.{Report.{Report}, products.Products.{Products}}, Reading.{Reading}, Taken.{most_product, product}}
use Rattle.readings.specs.Report.{soil_of}

-- the least, the greatest and the sum of a·R, in mm times milliohms
unfoldable pub with_product : ℕ → Products → Products
with_product s t = record { least = min s t.least; greatest = max s t.greatest; total = s + t.total }

-- no number of 64 bits is above it
abbrev pub highest : ℕ
highest = 18446744073709551615

unfoldable pub products_of : List Reading → Products
products_of [] = record { least = highest; greatest = 0; total = 0 }
products_of (p ∷ ps) = with_product (product p) (products_of ps)

-- 2π in 10^−7, rounded down and up
abbrev pub two_pi_digits : ℕ
two_pi_digits = 7

abbrev pub two_pi_unit : ℕ
two_pi_unit = 10 ^ two_pi_digits

abbrev pub two_pi_below : ℕ
two_pi_below = 62831853

abbrev pub two_pi_above : ℕ
two_pi_above = 62831854

unfoldable pub two_pi : Interval
two_pi = natural two_pi_below two_pi_above

-- the most that 2π·a·R is, in micro-ohm metres
abbrev pub most_mean : ℕ
most_mean = two_pi_above * most_product / two_pi_unit

-- 2π·s/count in micro-ohm metres
unfoldable pub ends_of : ℕ → ℕ → Interval
ends_of s count = product_of two_pi (point (pos s)) (count * two_pi_unit)

unfoldable pub report_of : List Reading → Report
report_of ps =
    let t = products_of ps in
    let mean = ends_of t.total (length ps) in
    record { least = ends_of t.least 1; greatest = ends_of t.greatest 1; mean = mean; soil = soil_of mean }
