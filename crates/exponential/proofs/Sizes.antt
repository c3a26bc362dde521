-- The halvings of q billionths, and how large the numbers of the calculation get: all products stay within 64 bits.
use Prim.Native.Nat.{ℕ, zero, suc, ◌+◌, ◌*◌, ◌/◌, ◌^◌, ◌≤◌, ◌<◌}
use mathlib.Core.Path.{◌≡◌, refl}
use native.Mathlib.Omega.{arith}
use native.Mathlib.Nat.{lt_of_not-le, div-mul-le_self, le_of_mul-le-mul_right, lt_of_mul-lt-mul_right, mul-le-mul, pow-suc}
use lib.Pow.{pow_pos}
use Rattle.exact.{specs.{Fraction.{top}, Reported.{ten, over}}, proofs.Powers.{exponent_lt_inv}}
use Rattle.exact.proofs.Doublings.{doublings_reach, doublings_least}
use Rattle.exponential.specs.Ends.{billion, unit, most, levels, halvings_of, nested_of, series_of, squared_of}
use Rattle.exponential.proofs.Rounded.{parts}

-- ---- halvings

pub halvings_reach : (q : ℕ) → 2 * q ≤ 2 ^ halvings_of q * billion
unfolding halvings_of over ten top
halvings_reach q = omega (arith, doublings_reach (parts q))

pub halvings_least : (q j : ℕ) → 2 * q ≤ 2 ^ j * billion → halvings_of q ≤ j
unfolding halvings_of over ten top
halvings_least q j h = doublings_least (parts q) j (omega arith)

pub halvings_more : (q m : ℕ) → 2 ^ m * billion < 2 * q → m < halvings_of q
halvings_more q m h = exponent_lt_inv 2 (omega arith) (lt_of_mul-lt-mul_right billion (omega (arith, h, halvings_reach q)))

-- 2^j is at most 1 and 4 q
pub halvings_parts : (q : ℕ) → 2 ^ halvings_of q * billion ≤ 4 * q + billion
halvings_parts q = go (halvings_of q) refl
  where
    go : (j : ℕ) → halvings_of q ≡ j → 2 ^ j * billion ≤ 4 * q + billion
    go zero e = omega arith
    go (suc j) e =
        let l : 2 ^ j * billion < 2 * q = lt_of_not-le (λ h. omega (arith, halvings_least q j h)) in
        rw pow-suc (omega (arith, l))

pub halvings_few : {q : ℕ} → q ≤ most → halvings_of q ≤ 14
halvings_few {q} h = halvings_least q 14 (omega arith)

pub argument_size : {a b : ℕ} → a ≤ b → 4 * a / 2 ^ halvings_of b ≤ 2000000000
argument_size {a} {b} l =
    let p = 2 ^ halvings_of b in
    le_of_mul-le-mul_right (omega (arith, l, div-mul-le_self (4 * a) p, halvings_reach b)) (pow_pos (halvings_of b))

-- ---- sizes

pub nested_least : (up y i n : ℕ) → unit ≤ nested_of up y i n
unfolding nested_of
nested_least up y i zero = omega arith
nested_least up y i (suc n) = omega arith

-- a level's quotient, from the second level on
pub level_size : {y s : ℕ} (i : ℕ) → y ≤ 2000000001 → s ≤ 5600000000 → y * s / (unit * suc (suc i)) ≤ 1500000000
level_size {y} {s} i hy hs =
    let r = y * s / (unit * suc (suc i)) in
    let l : r * (2 * unit) ≤ 1500000000 * (2 * unit) = omega (arith, div-mul-le_self (y * s) (unit * suc (suc i)), mul-le-mul hy hs) in
    le_of_mul-le-mul_right l (omega arith)

pub nested_size : {up y : ℕ} → up ≤ 1 → y ≤ 2000000001 → (i n : ℕ) → nested_of up y (suc i) n ≤ 5600000000
unfolding nested_of
nested_size hu hy i zero = omega arith
nested_size {up} {y} hu hy i (suc n) = omega (arith, level_size i hy (nested_size {up = up} hu hy (suc i) n))

pub later_size : {up y : ℕ} → up ≤ 1 → y ≤ 2000000001 → (i n : ℕ) → 0 < i → nested_of up y i n ≤ 5600000000
later_size hu hy zero n h = absurd (omega arith)
later_size {up} hu hy (suc i) n h = nested_size {up = up} hu hy i n

pub first_size : {up y : ℕ} → up ≤ 1 → y ≤ 2000000001 → (n : ℕ) → nested_of up y 0 n ≤ 7000000000
unfolding nested_of
first_size hu hy zero = omega arith
first_size {up} {y} hu hy (suc n) =
    let s = nested_of up y 1 n in
    omega (arith, div-mul-le_self (y * s) unit, mul-le-mul hy (nested_size {up = up} hu hy 0 n))

pub series_least : (up y : ℕ) → unit ≤ series_of up y
unfolding series_of
series_least up y = omega (arith, nested_least up y 0 levels)

pub inverse_most : {s : ℕ} → unit ≤ s → unit * unit / s ≤ unit
inverse_most {s} h = le_of_mul-le-mul_right {k = s} (omega (arith, div-mul-le_self (unit * unit) s)) (omega arith)

pub squared_below : {v : ℕ} → v ≤ unit → (m : ℕ) → squared_of 0 v m ≤ unit
unfolding squared_of
squared_below h zero = h
squared_below {v} h (suc m) = omega (arith, mul-le-mul (squared_below h m) (squared_below h m))
