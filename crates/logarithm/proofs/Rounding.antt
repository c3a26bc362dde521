-- What the logarithm's code rounds, in the series' unit and in billionths; the laws of rounding are those of exact/proofs/Rounding.antt.
use Prim.Native.Nat.{ℕ, ◌+◌, ◌*◌}
use mathlib.Core.Path.{◌≡◌, ap}
use native.Mathlib.Omega.{arith}
use lib.{Dec.{lit<}}
use Rattle.exact.{specs.{Fraction.{whole, ◌·f◌, inv, ◌÷f◌}, Reported.{Scale, ten, over}}, proofs.SeriesBounds.{term_of}}
use Rattle.exact.proofs.Rounding.{units, Is}
use Rattle.logarithm.specs.Series.{unit}

-- the unit of the series, 2^−33
abbrev pub binary : Scale
binary = record { count = unit; positive = lit< tt }

pub term_is : (a i : ℕ) → Is binary (2 * a) (2 * i + 1) (term_of (units binary a) i)
unfolding over whole ◌·f◌ inv ◌÷f◌
term_is a i =
    let e : (inv (whole (2 * i + 1))).den ≡ 2 * i + 1 = omega arith in
    record { divisor = omega arith; value = omega (arith, ap (λ t. a * t) e) }

pub billionths_are : (n : ℕ) → Is (ten 9) (n * 1000000000) unit (units binary n)
unfolding over ten
billionths_are n = record { divisor = lit< tt; value = omega arith }

pub multiple_is : (m l : ℕ) → Is (ten 9) (m * l) 1000 (whole m ·f units (ten 12) l)
unfolding over ten whole ◌·f◌
multiple_is m l = record { divisor = lit< tt; value = omega arith }
