-- How a formula's enclosure follows its line: n / √t, with t in milliseconds and the result in thousandths.
use Prim.Native.Nat.{ℕ, ◌*◌, ◌≤◌}
use mathlib.Core.Path.{refl}
use native.Mathlib.Omega.{arith}
use lib.{IntN.{pos}, Signed.{◌≤ℤ◌}}
use Rattle.interval.specs.{Operations.{point, quotient_of}, Root.{RootEnds}, declared.Interval.{Interval}}
use Rattle.exact.specs.{Fraction.{whole, decimal}, Exact.{exactly, ◌÷x◌}, Root.{root}, Reported.{ten}}
use Rattle.exact.proofs.{Consistency.{consistent_exactly}, Roots.{consistent_root}}
use Rattle.enclosure.specs.Enclosure.{Encloses}
use Rattle.enclosure.proofs.{Basics.{encloses_whole, encloses_decimal}, Quotients.{encloses_quotient}, Roots.{encloses_sqrt_even}}

module _ (n ms : ℕ) {i : Interval} (r : RootEnds (ms * 10000000000000) i) (p : pos 1 ≤ℤ i.lower) where
  seconds : Encloses (root 2 (exactly (decimal ms 3))) (ten 8) i
  unfolding ten
  seconds = encloses_sqrt_even (ten 8) ms 10000 refl (omega arith) r (encloses_decimal ms 3 1 (ten 3) refl (omega arith))

  example : Encloses (exactly (whole n) ÷x root 2 (exactly (decimal ms 3))) (ten 3) (quotient_of (point (pos n)) i 100000000000)
  unfolding ten
  example =
      let one : 1 ≤ 2 = omega arith in
      encloses_quotient (ten 3) 100000000000 refl p (consistent_exactly (whole n))
      (consistent_root 2 one (consistent_exactly (decimal ms 3))) (encloses_whole n (ten 0) (omega arith)) seconds
