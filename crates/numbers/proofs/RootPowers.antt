-- A fraction lies between the power of its root's digits and the power of the next number.
use Prim.Native.Nat.{ℕ, zero, suc, ◌+◌, ◌*◌, ◌^◌, ◌≤◌}
use mathlib.Core.Path.{ap}
use native.Mathlib.{Omega.{arith}, Nat.{mul-le-mul_right, pow-suc, pow-zero, one-le-pow}}
use Rattle.exact.specs.{Fraction.{Fraction, ◌≤f◌, ◌≈f◌, whole, decimal, ◌·f◌, top, powf}, Root.{root_digits}}
use Rattle.exact.proofs.{Order.{trans≤, refl≈, trans≈}, Products.{cong·}, Powers.{ten_pos}, RootDigits.{root_below, root_above}}

-- (a / 10^k)^n as one fraction
power : ℕ → ℕ → ℕ → Fraction
power a k n = record { plus = a ^ n; minus = 0; den = (10 ^ k) ^ n; positive = one-le-pow n (10 ^ k) (ten_pos k) }

power_first : (a k : ℕ) → whole 1 ≈f power a k 0
unfolding whole power
power_first a k = omega (arith, pow-zero a, pow-zero (10 ^ k))

power_next : (a k n : ℕ) → power a k n ·f decimal a k ≈f power a k (suc n)
unfolding ◌·f◌ decimal power
power_next a k n = omega (arith, ap (λ t. a ^ n * a * t) (pow-suc (10 ^ k) n), ap (λ t. t * ((10 ^ k) ^ n * 10 ^ k)) (pow-suc a n))

power_is : (a k n : ℕ) → powf (decimal a k) n ≈f power a k n
unfolding powf
power_is a k zero = power_first a k
power_is a k (suc n) = trans≈ (cong· (power_is a k n) (refl≈ _)) (power_next a k n)

top_over : (q : Fraction) → q.plus ≤ top q + q.minus
unfolding top
top_over q = omega arith

top_under : {q : Fraction} → whole 0 ≤f q → top q + q.minus ≤ q.plus
unfolding top whole
top_under h = omega arith

module _ (n : ℕ) (hn : 1 ≤ n) (q : Fraction) (k : ℕ) where
  -- q is between the powers of the digits and of the next
  pub below_next : q ≤f powf (decimal (suc (root_digits n q k)) k) n
  unfolding power
  below_next = trans≤ (record { le = core }) (power_is (suc (root_digits n q k)) k n).fro
    where
      core : q.plus * (10 ^ k) ^ n + 0 * q.den ≤ suc (root_digits n q k) ^ n * q.den + q.minus * (10 ^ k) ^ n
      core = omega (arith, root_above n hn q k, mul-le-mul_right ((10 ^ k) ^ n) (top_over q))

  pub digits_below : whole 0 ≤f q → powf (decimal (root_digits n q k) k) n ≤f q
  unfolding power
  digits_below l = trans≤ (power_is (root_digits n q k) k n).to (record { le = core })
    where
      core : root_digits n q k ^ n * q.den + q.minus * (10 ^ k) ^ n ≤ q.plus * (10 ^ k) ^ n + 0 * q.den
      core = omega (arith, root_below n hn q k, mul-le-mul_right ((10 ^ k) ^ n) (top_under l))
