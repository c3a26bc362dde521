-- §5.7, §5.8: pairs of whole numbers in a unit, as the program reports them.
use Rattle.std.specs.Prelude.{ℕ, ◌^◌, ◌<◌}
use Rattle.std.proofs.Common.{zero-lt-suc}
use Rattle.std.proofs.Math.Nat.{one-le-pow}
use lib.{IntN.{ℤ}, Signed.{◌≤ℤ◌}}
use Rattle.whole.specs.Signed.{plus, minus}
use Rattle.interval.specs.declared.Interval.{Interval}
use Rattle.exact.specs.{Fraction.{Fraction, ◌≤f◌, ◌−f◌}, Ends.{Ends}, Exact.{Exact, Holds}}

-- the scale of a unit: how many of it make one
pub record Scale : Type 0 where
  pub count : ℕ
  pub positive : 0 < count

-- units of 10^−e: 3 for millivolts, 6 for micro-ohms, 9 for billionths
unfoldable pub ten : ℕ → Scale
ten e = record { count = 10 ^ e; positive = one-le-pow e 10 (zero-lt-suc 9) }

-- z units of a scale
unfoldable pub over : ℤ → Scale → Fraction
over z u = record { plus = plus z; minus = minus z; den = u.count; positive = u.positive }

-- a reported pair
unfoldable pub reported : Scale → Interval → Ends
reported u i = record { lower = over i.lower u; upper = over i.upper u }

-- the ends are at most a width apart
pub record AtMost (width : Fraction) (A : Ends) : Type 0 where
  pub apart : A.upper −f A.lower ≤f width

-- a pair reported in a unit for an exact value, no wider than allowed for its ends
pub record Reports (x : Exact) (u : Scale) (width : Ends → Fraction) (i : Interval) : Type 0 where
  pub ordered : i.lower ≤ℤ i.upper
  pub holds : Holds (reported u i) x
  pub narrow : AtMost (width (reported u i)) (reported u i)
