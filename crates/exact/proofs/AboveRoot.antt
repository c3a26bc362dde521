-- A root against a fraction, and a multiple of it: above exactly where its powers are.
use Prim.Native.Nat.{ℕ, zero, suc, ◌+◌, ◌*◌, ◌^◌, ◌≤◌, ◌<◌}
use native.Mathlib.Omega.{arith}
use native.Mathlib.Nat.{mul-le-mul_right, mul-le-mul_left, mul-lt-mul_of_pos_right, le_of_mul-le-mul_right, lt_of_mul-lt-mul_right}
use native.Mathlib.Nat.{one-le-pow, pow-suc, pow-zero}
use lib.IntN.{pos}
use Rattle.exact.specs.Fraction.{Fraction, ◌≤f◌, ◌<f◌, ◌≈f◌, whole, decimal, ◌·f◌, top}
use Rattle.exact.specs.{Exact.{Exact, exactly, ◌·x◌, Above, AtOrBelow}, Root.{root_digits, root_of, root}, Reported.{Scale, over}}
use Rattle.exact.specs.Depth.{Consistent}
use Rattle.exact.proofs.{Order.{trans≤, lt_of_lt_of_le, lt_of_le_of_lt, le_of_lt, not<}, Products.{mul_left≤, mul<}}
use Rattle.exact.proofs.{Consistency.{proper_at}, KnownEnds.{scaled_ends_lem}, Powers.{mul_pow, pow_lt_inv, below_pow, ten_pos}}
use Rattle.exact.proofs.RootDigits.{root_above, lower_not_above}

-- ---- at which depth it shows that a root is above r / v

-- (r t + v)^n is at most r^n t^n and t^(n−1) times this
excess : ℕ → ℕ → ℕ → ℕ
excess r v zero = 0
excess r v (suc n) = v * r ^ n + (r + v) * excess r v n

binomial : (r v t : ℕ) → 0 < t → (n : ℕ) → (r * t + v) ^ n * t ≤ t ^ n * (r ^ n * t + excess r v n)
unfolding excess
binomial r v t h zero = simp pow-zero (omega arith)
binomial r v t h (suc n) = simp pow-suc (step ((r * t + v) ^ n) (t ^ n) (r ^ n) (excess r v n) (binomial r v t h n))
  where
    step : (x p w e : ℕ) → x * t ≤ p * (w * t + e) → x * (r * t + v) * t ≤ p * t * (w * r * t + (v * w + (r + v) * e))
    step x p w e k = omega (arith, mul-le-mul_right (r * t + v) k, mul-le-mul_right (p * v * e) h)

-- from the depth on at which 10^k is at least the excess times the denominator
digits_above : (n : ℕ) (q : Fraction) (r v k : ℕ) → 1 ≤ n → 0 < v → excess r v n * q.den ≤ 10 ^ k → r ^ n * q.den < v ^ n * top q
    → r * 10 ^ k < root_digits n q k * v
digits_above n q r v k hn hv deep h =
    let s : r * 10 ^ k + v < suc (root_digits n q k) * v = pow_lt_inv n (rw (mul_pow (suc (root_digits n q k)) v n) powers) in
    omega arith
  where
    t : ℕ
    t = 10 ^ k

    core : (x p w e y d top : ℕ) → x * t ≤ p * (w * t + e) → e * d ≤ t → w * d < y * top → x * d ≤ p * y * top
    core x p w e y d top a b c =
        le_of_mul-le-mul_right {k = t} (omega (arith, mul-le-mul_right d a, mul-le-mul_left p b, mul-le-mul_left (p * t) c)) (ten_pos k)

    close : (x p y d top s : ℕ) → x * d ≤ p * y * top → p * top < s * d → 0 < y → x < s * y
    close x p y d top s a b c = lt_of_mul-lt-mul_right d (omega (arith, a, mul-lt-mul_of_pos_right b c))

    powers : (r * t + v) ^ n < suc (root_digits n q k) ^ n * v ^ n
    powers =
        close ((r * t + v) ^ n) (t ^ n) (v ^ n) q.den (top q) (suc (root_digits n q k) ^ n)
        (core ((r * t + v) ^ n) (t ^ n) (r ^ n) (excess r v n) (v ^ n) q.den (top q) (binomial r v t (ten_pos k) n) deep h)
        (root_above n hn q k) (one-le-pow n v hv)

module _ (n : ℕ) (q : Fraction) (r : ℕ) (u : Scale) (hn : 1 ≤ n) where
  pub above_root : r ^ n * q.den < u.count ^ n * top q → Above (root n (exactly q)) (exactly (over (pos r) u))
  unfolding root root_of exactly decimal over
  above_root h =
      let k : ℕ = 3 + excess r u.count n * q.den in
      let deep : excess r u.count n * q.den ≤ 10 ^ k = omega (arith, below_pow 10 k (omega arith)) in
      record { depth = k; deep = omega arith; above = record { lt = omega (arith, digits_above n q r u.count k hn u.positive deep h) } }

  -- and otherwise at no depth
  pub not_above_root : u.count ^ n * top q ≤ r ^ n * q.den → (k : ℕ) → (root n (exactly q) k).lower ≤f over (pos r) u
  unfolding root exactly
  not_above_root h k = lower_not_above n hn q u r k h

-- ---- a positive multiple

module _ (a c w : Fraction) {y : Exact} (cy : Consistent y) where
  lower_is : (k : ℕ) → 3 ≤ k → whole 0 ≤f a → ((exactly a ·x y) k).lower ≈f a ·f (y k).lower
  unfolding ◌·x◌
  lower_is k d n = (scaled_ends_lem k n (proper_at cy d)).lowers

  pub above_multiple : whole 0 <f a → c ≤f a ·f w → Above y (exactly w) → Above (exactly a ·x y) (exactly c)
  unfolding exactly
  above_multiple p l h =
      let s = lower_is h.depth h.deep (le_of_lt p) in
      record { depth = h.depth; deep = h.deep; above = lt_of_lt_of_le (lt_of_le_of_lt l (mul< p h.above)) s.fro }

  pub not_above_multiple : whole 0 ≤f a → a ·f w ≤f c → ((k : ℕ) → 3 ≤ k → (y k).lower ≤f w) → AtOrBelow (exactly a ·x y) (exactly c)
  unfolding exactly
  not_above_multiple n l h b =
      not< b.above (trans≤ (lower_is b.depth b.deep n).to (trans≤ (mul_left≤ n (h b.depth b.deep)) l))
