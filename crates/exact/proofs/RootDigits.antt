-- The digits of a root: known by their powers, and so compared with counts of any unit.
use Prim.Native.Nat.{ℕ, suc, ◌*◌, ◌^◌, ◌≤◌, ◌<◌}
use mathlib.Core.Path.{◌≡◌, ap}
use native.Mathlib.{Omega.{arith}, Nat.{mul-le-mul_right, mul-le-mul_left, lt_of_mul-lt-mul_right}}
use lib.IntN.{pos}
use Rattle.exact.specs.{Fraction.{Fraction, ◌≤f◌, decimal, top}, Root.{root_digits, root_of}, Reported.{Scale, over}}
use Rattle.exact.proofs.{Order.{refl≤}, Powers.{zero_pow, le_pow, ten_pos, pow_lt_inv, powers_cross, powers_cross≤}}
use Rattle.exact.proofs.Greatest.{greatest_holds, greatest_next, greatest_unique}

-- ---- the digits

module _ (n : ℕ) (hn : 1 ≤ n) (q : Fraction) (k : ℕ) where
  starts : 0 ^ n * q.den ≤ (10 ^ k) ^ n * top q
  starts = omega (arith, ap (λ t. t * q.den) (zero_pow n hn))

  bound : (t : ℕ) → t < suc t ^ n * q.den
  bound t =
      let m : suc t ^ n * 1 ≤ suc t ^ n * q.den = mul-le-mul_left (suc t ^ n) q.positive in
      omega (arith, le_pow (suc t) n hn (omega arith))

  pub root_below : root_digits n q k ^ n * q.den ≤ (10 ^ k) ^ n * top q
  unfolding root_digits
  root_below = greatest_holds (λ r. r ^ n * q.den) ((10 ^ k) ^ n * top q) ((10 ^ k) ^ n * top q) starts

  pub root_above : (10 ^ k) ^ n * top q < suc (root_digits n q k) ^ n * q.den
  unfolding root_digits
  root_above = greatest_next (λ r. r ^ n * q.den) ((10 ^ k) ^ n * top q) ((10 ^ k) ^ n * top q) (bound ((10 ^ k) ^ n * top q))

  -- the only ones with these two properties
  pub root_unique : (r : ℕ) → r ^ n * q.den ≤ (10 ^ k) ^ n * top q → (10 ^ k) ^ n * top q < suc r ^ n * q.den → root_digits n q k ≡ r
  unfolding root_digits
  root_unique r l u =
      greatest_unique (λ r. r ^ n * q.den) ((10 ^ k) ^ n * top q) ((10 ^ k) ^ n * top q) r
      (λ a b h. pow_lt_inv n (lt_of_mul-lt-mul_right q.den h)) starts (bound ((10 ^ k) ^ n * top q)) l u

-- ---- a root against counts of a unit whose powers are known

module _ (n : ℕ) (hn : 1 ≤ n) (q : Fraction) (u : Scale) (r : ℕ) (k : ℕ) where
  pub not_above_upper : r ^ n * q.den ≤ u.count ^ n * top q → over (pos r) u ≤f (root_of n q k).upper
  unfolding root_of decimal over
  not_above_upper h =
      omega (arith, powers_cross n r u.count (suc (root_digits n q k)) (10 ^ k) u.positive (refl≤ q) h (root_above n hn q k))

  pub lower_not_above : u.count ^ n * top q ≤ r ^ n * q.den → (root_of n q k).lower ≤f over (pos r) u
  unfolding root_of decimal over
  lower_not_above h = omega (arith, powers_cross≤ n (root_digits n q k) (10 ^ k) r u.count hn (refl≤ q) (root_below n hn q k) h)

-- the same of the other end, at a depth of which the unit is a multiple
next_count : (a b u : ℕ) → a * u < b * u → suc a * u ≤ b * u
next_count a b u h = mul-le-mul_right u (lt_of_mul-lt-mul_right u h)

module _ (n : ℕ) (hn : 1 ≤ n) (q : Fraction) (u : Scale) (r : ℕ) (k m : ℕ) (fits : u.count * m ≡ 10 ^ k) where
  scaled : r * (u.count * m) ≡ r * 10 ^ k
  scaled = ap (λ t. r * t) fits

  pub not_above_lower : r ^ n * q.den ≤ u.count ^ n * top q → over (pos r) u ≤f (root_of n q k).lower
  unfolding root_of decimal over
  not_above_lower h =
      let d : ℕ = root_digits n q k in
      let c : r * 10 ^ k < suc d * u.count = powers_cross n r u.count (suc d) (10 ^ k) u.positive (refl≤ q) h (root_above n hn q k) in
      omega (arith, scaled, next_count (r * m) (suc d) u.count (omega (arith, scaled)))

  pub upper_not_above : u.count ^ n * top q < r ^ n * q.den → (root_of n q k).upper ≤f over (pos r) u
  unfolding root_of decimal over
  upper_not_above h =
      let d : ℕ = root_digits n q k in
      let c : d * u.count < r * 10 ^ k = powers_cross n d (10 ^ k) r u.count (ten_pos k) (refl≤ q) (root_below n hn q k) h in
      omega (arith, scaled, next_count d (r * m) u.count (omega (arith, scaled)))

-- ---- the digits of two fractions in order

module _ (n : ℕ) (hn : 1 ≤ n) {q q' : Fraction} (l : q ≤f q') where
  pub digits_cross : (j k : ℕ) → root_digits n q j * 10 ^ k < suc (root_digits n q' k) * 10 ^ j
  digits_cross j k =
      powers_cross n (root_digits n q j) (10 ^ j) (suc (root_digits n q' k)) (10 ^ k) (ten_pos j) l (root_below n hn q j)
      (root_above n hn q' k)

  pub digits≤ : (k : ℕ) → root_digits n q k ≤ root_digits n q' k
  digits≤ k =
      let c : root_digits n q k < suc (root_digits n q' k) = lt_of_mul-lt-mul_right (10 ^ k) (digits_cross k k) in
      omega arith
