-- Powers of natural numbers, and fractions compared by their powers.
use Prim.Native.Nat.{ℕ, zero, suc, ◌+◌, ◌-◌, ◌*◌, ◌^◌, ◌≤◌, ◌<◌}
use mathlib.Core.{Path.{◌≡◌, ap}, Logic.{◌≢◌}}
use native.Mathlib.{Omega.{arith}, Decide.{dec_le}}
use native.Mathlib.Nat.{mul-le-mul_right, mul-lt-mul_of_pos_right, lt_of_mul-lt-mul_right, le_of_mul-le-mul_right, mul-pos, lt_of_not-le}
use native.Mathlib.Nat.{pow-suc, pow-zero, pow-le-pow_left, pow-le-pow_right, pow-lt-pow_left, one-le-pow}
use Rattle.exact.specs.Fraction.{Fraction, ◌≤f◌, top}

pub square : (n : ℕ) → n ^ 2 ≡ n * n
square n = simp (pow-suc n 1, pow-suc n 0, pow-zero n) (omega arith)

pub mul_pow : (a b n : ℕ) → (a * b) ^ n ≡ a ^ n * b ^ n
mul_pow a b zero = simp pow-zero
mul_pow a b (suc n) = simp pow-suc (omega (arith, ap (λ t. t * (a * b)) (mul_pow a b n)))

pub zero_pow : (n : ℕ) → 1 ≤ n → 0 ^ n ≡ 0
zero_pow zero h = absurd (omega arith)
zero_pow (suc n) h = simp pow-suc (omega arith)

pub one_pow : (n : ℕ) → 1 ^ n ≡ 1
one_pow zero = simp pow-zero
one_pow (suc n) = simp pow-suc (omega (arith, one_pow n))

pub le_pow : (a n : ℕ) → 1 ≤ n → 1 ≤ a → a ≤ a ^ n
le_pow a zero h k = absurd (omega arith)
le_pow a (suc n) h k = simp pow-suc (omega (arith, mul-le-mul_right a (one-le-pow n a k)))

pub below_pow : (b k : ℕ) → 2 ≤ b → k < b ^ k
below_pow b zero h = simp pow-zero (omega arith)
below_pow b (suc k) h = simp pow-suc (omega (arith, below_pow b k h, mul-le-mul_right (b ^ k) h))

pub ten_pos : (k : ℕ) → 0 < 10 ^ k
ten_pos k = one-le-pow k 10 (omega arith)

-- a power's order is its base's, and its exponent's
pub pow_lt_inv : (n : ℕ) {a b : ℕ} → a ^ n < b ^ n → a < b
pow_lt_inv n h = lt_of_not-le (λ k. omega (arith, h, pow-le-pow_left k n))

pub pow_le_inv : (n : ℕ) {a b : ℕ} → 1 ≤ n → a ^ n ≤ b ^ n → a ≤ b
pow_le_inv n {a} {b} o h =
    let z : n ≢ 0 = omega arith in
    let l : a < suc b = lt_of_not-le (λ k. omega (arith, h, pow-lt-pow_left k z)) in
    omega arith

pub exponent_lt_inv : (b : ℕ) {m n : ℕ} → 0 < b → b ^ m < b ^ n → m < n
exponent_lt_inv b o h = lt_of_not-le (λ k. omega (arith, h, pow-le-pow_right o k))

-- ---- numerators

pub top≤ : {q r : Fraction} → q ≤f r → top q * r.den ≤ top r * q.den
unfolding top
top≤ {q} {r} h = go (dec_le q.minus q.plus)
  where
    core : (t u : ℕ) → t + q.minus ≡ q.plus → r.plus ≤ u + r.minus → t * r.den ≤ u * q.den
    core t u e l = omega (arith, h.le, ap (λ s. s * r.den) e, mul-le-mul_right q.den l)

    nought : (t u : ℕ) → t ≡ 0 → t * r.den ≤ u * q.den
    nought t u e = omega (arith, ap (λ s. s * r.den) e)

    go : Dec (q.minus ≤ q.plus) → (q.plus - q.minus) * r.den ≤ (r.plus - r.minus) * q.den
    go (yes l) = core (q.plus - q.minus) (r.plus - r.minus) (omega arith) (omega arith)
    go (no l) = nought (q.plus - q.minus) (r.plus - r.minus) (omega arith)

-- (r / t)^n ≤ q ≤ q' < (s / u)^n gives r / t < s / u
pub powers_cross : (n r t s u : ℕ) {q q' : Fraction} → 0 < t → q ≤f q'
    → r ^ n * q.den ≤ t ^ n * top q → u ^ n * top q' < s ^ n * q'.den → r * u < s * t
powers_cross n r t s u {q} {q'} ht l a b =
    pow_lt_inv n (rw (mul_pow r u n, mul_pow s t n) (core (r ^ n) (s ^ n) (t ^ n) (u ^ n) (one-le-pow n t ht) a b))
  where
    core : (r s t u : ℕ) → 0 < t → r * q.den ≤ t * top q → u * top q' < s * q'.den → r * u < s * t
    core r s t u h a b =
        lt_of_mul-lt-mul_right (q.den * q'.den)
        (omega (arith, mul-le-mul_right (u * q'.den) a, mul-lt-mul_of_pos_right b (mul-pos h q.positive), mul-le-mul_right (t * u) (top≤ l)))

-- (r / t)^n ≤ q ≤ q' ≤ (s / u)^n gives r / t ≤ s / u
pub powers_cross≤ : (n r t s u : ℕ) {q q' : Fraction} → 1 ≤ n → q ≤f q'
    → r ^ n * q.den ≤ t ^ n * top q → u ^ n * top q' ≤ s ^ n * q'.den → r * u ≤ s * t
powers_cross≤ n r t s u {q} {q'} hn l a b =
    pow_le_inv n hn (rw (mul_pow r u n, mul_pow s t n) (core (r ^ n) (s ^ n) (t ^ n) (u ^ n) a b))
  where
    core : (r s t u : ℕ) → r * q.den ≤ t * top q → u * top q' ≤ s * q'.den → r * u ≤ s * t
    core r s t u a b =
        le_of_mul-le-mul_right
        (omega (arith, mul-le-mul_right (u * q'.den) a, mul-le-mul_right (t * q.den) b, mul-le-mul_right (t * u) (top≤ l)))
        (mul-pos q.positive q'.positive)
