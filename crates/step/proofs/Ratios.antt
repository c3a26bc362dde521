-- Quotients of whole numbers: as fractions, they lie between their ends rounded outward.
use Prim.Native.Nat.{ℕ, ◌*◌, ◌<◌}
use mathlib.Core.Path.{◌≡◌, ap}
use native.Mathlib.{Omega.{arith}, Nat.{mul-pos, mul-le-mul_right}}
use lib.IntN.{pos}
use Rattle.whole.proofs.Rounding.{floor_div_below, ceil_div_above}
use Rattle.interval.specs.{Operations.{natural, point, sum_of, quotient_of}, declared.Interval.{Interval}}
use Rattle.interval.proofs.Natural.{point_natural, natural_quotient}
use Rattle.exact.{specs.{Fraction.{Fraction, ◌≈f◌, ◌+f◌, inv}, Reported.{Scale, over, reported}}, proofs.{Order.{trans≤}, Sums.{mono+}}}
use Rattle.exact.proofs.{Points.{Point}, Reported.{over_sum}}

-- n / d
abbrev pub ratio : ℕ → (d : ℕ) → 0 < d → Fraction
ratio n d p = record { plus = n; minus = 0; den = d; positive = p }

-- the inverse of a fraction that is written with no minus
pub inverse_is : (q : Fraction) (p : 0 < q.plus) → q.minus ≡ 0 → inv q ≈f ratio q.den q.plus p
unfolding inv
inverse_is q p e =
    let f : (inv q).den ≡ q.plus = omega arith in
    omega (arith, ap (λ t. q.den * t) f)

-- a k / d, counted in a unit
module _ (a d k : ℕ) (p : 0 < d) (u : Scale) where
  unfoldable pub counted : Fraction
  counted = ratio (a * k) (d * u.count) (mul-pos p u.positive)

  pub counted_point : Point counted (reported u (quotient_of (point (pos a)) (point (pos d)) k))
  unfolding counted natural reported over
  counted_point =
      rw (point_natural a, point_natural d, natural_quotient a a {d = d} k p (omega arith))
      (record {
        low = record { le = omega (arith, mul-le-mul_right u.count (floor_div_below (a * k) d)) };
        high = record { le = omega (arith, mul-le-mul_right u.count (ceil_div_above (a * k) p)) };
      })

-- what lies between the ends of two pairs has its sum between the ends of theirs
pub sum_point : {p q : Fraction} (u : Scale) (i j : Interval) → Point p (reported u i) → Point q (reported u j)
    → Point (p +f q) (reported u (sum_of i j))
unfolding reported sum_of
sum_point u i j h k =
    record {
      low = trans≤ (over_sum i.lower j.lower u).to (mono+ h.low k.low);
      high = trans≤ (mono+ h.high k.high) (over_sum i.upper j.upper u).fro;
    }
