-- Division rounded down and up, of naturals and of signed numbers.
use Prim.Native.Nat.{ℕ, suc, ◌+◌, ◌-◌, ◌*◌, ◌/◌, ◌≤◌, ◌<◌}
use mathlib.Core.{Path.{◌≡◌, sym, ap}, Logic.{⊎_elim}}
use native.Mathlib.Omega.{arith}
use native.Mathlib.Nat.{div-mul-le_self, lt-div-mul-add, mul-pos, mul-le-mul_left, mul-le-mul_right, mul-lt-mul_of_pos_left}
use native.Mathlib.Nat.{le_of_suc-le-suc, lt_of_mul-lt-mul_right}
use lib.IntN.{ℤ, pos, negsuc, neg_ℤ, nat_abs}
use Rattle.whole.specs.{Signed.{plus, minus}, Whole.{floor_z, ceil_z, ceil_div}}
use Rattle.whole.proofs.Signed.{halves, size_is, neg_plus, neg_minus, floor_below, floor_above, size_neg, size_floor}

-- ---- naturals: the quotient rounded down, then up

pub floor_div_below : (n d : ℕ) → n / d * d ≤ n
floor_div_below n d = div-mul-le_self n d

pub floor_div_above : (n : ℕ) {d : ℕ} → 0 < d → n < n / d * d + d
floor_div_above n h = lt-div-mul-add h

pub ceil_div_above : (n : ℕ) {d : ℕ} → 0 < d → n ≤ ceil_div n d * d
unfolding ceil_div
ceil_div_above n {d} h = omega (arith, lt-div-mul-add {a = n + (d - 1)} h)

pub ceil_div_below : (n : ℕ) {d : ℕ} → 0 < d → ceil_div n d * d < n + d
unfolding ceil_div
ceil_div_below n {d} h = omega (arith, div-mul-le_self (n + (d - 1)) d)

-- a bound on the number is one on the quotient
pub ceil_div_by : (n : ℕ) {d w : ℕ} → 0 < d → n ≤ w * d → ceil_div n d ≤ w
ceil_div_by n {d} {w} h k = le_of_suc-le-suc (lt_of_mul-lt-mul_right d (omega (arith, ceil_div_below n h)))

pub floor_div_by : (n : ℕ) {d w : ℕ} → 0 < d → w * d ≤ n → w ≤ n / d
floor_div_by n {d} {w} h k = le_of_suc-le-suc (lt_of_mul-lt-mul_right d (omega (arith, floor_div_above n h)))

-- a greater divisor gives a lesser quotient
module _ (n : ℕ) {c d : ℕ} (hc : 0 < c) (h : c ≤ d) where
  pub floor_div_falls : n / d ≤ n / c
  floor_div_falls = floor_div_by n hc (omega (arith, div-mul-le_self n d, mul-le-mul_left (n / d) h))

  pub ceil_div_falls : ceil_div n d ≤ ceil_div n c
  ceil_div_falls = ceil_div_by n (omega arith) (omega (arith, ceil_div_above n hc, mul-le-mul_left (ceil_div n c) h))

-- ---- signed numbers

-- rounded up: (q − 1) · d < z ≤ q · d
module _ (z : ℤ) {d : ℕ} (h : 0 < d) where
  turned : (plus (neg_ℤ (floor_z (neg_ℤ z) d)) * d ≡ minus (floor_z (neg_ℤ z) d) * d)
      × (minus (neg_ℤ (floor_z (neg_ℤ z) d)) * d ≡ plus (floor_z (neg_ℤ z) d) * d)
  turned = (ap (λ q. q * d) (neg_plus (floor_z (neg_ℤ z) d)), ap (λ q. q * d) (neg_minus (floor_z (neg_ℤ z) d)))

  pub ceil_above : plus z + minus (ceil_z z d) * d ≤ plus (ceil_z z d) * d + minus z
  unfolding ceil_z
  ceil_above = omega (arith, turned, floor_below (neg_ℤ z) h, neg_plus z, neg_minus z)

  pub ceil_below : plus (ceil_z z d) * d + minus z < plus z + minus (ceil_z z d) * d + d
  unfolding ceil_z
  ceil_below = omega (arith, turned, floor_above (neg_ℤ z) h, neg_plus z, neg_minus z)

-- a signed number that lies where a rounded quotient lies is that quotient
pub floor_is : (z : ℤ) (n d : ℕ) → plus z * d ≤ n + minus z * d → n + minus z * d < plus z * d + d → z ≡ pos (n / d)
floor_is (pos a) n d h k =
    let p : a < suc (n / d) = lt_of_mul-lt-mul_right d (omega (arith, floor_div_above n {d = d} (omega arith))) in
    let q : n / d < suc a = lt_of_mul-lt-mul_right d (omega (arith, floor_div_below n d)) in
    let e : a ≡ n / d = omega arith in
    ap pos e
floor_is (negsuc a) n d h k = absurd (omega arith)

pub ceil_is : (z : ℤ) (n d : ℕ) → 0 < d → n + minus z * d ≤ plus z * d → plus z * d < n + minus z * d + d → z ≡ pos (ceil_div n d)
ceil_is (pos a) n d p h k =
    let l : a < suc (ceil_div n d) = lt_of_mul-lt-mul_right d (omega (arith, ceil_div_above n p)) in
    let m : ceil_div n d < suc a = lt_of_mul-lt-mul_right d (omega (arith, ceil_div_below n p)) in
    let e : a ≡ ceil_div n d = omega arith in
    ap pos e
ceil_is (negsuc a) n d p h k = absurd (omega (arith, mul-le-mul_right d p))

-- of a natural number
pub floor_pos : (n : ℕ) {d : ℕ} → 0 < d → floor_z (pos n) d ≡ pos (n / d)
floor_pos n {d} h = floor_is (floor_z (pos n) d) n d (omega (arith, floor_below (pos n) h)) (omega (arith, floor_above (pos n) h))

pub ceil_pos : (n : ℕ) {d : ℕ} → 0 < d → ceil_z (pos n) d ≡ pos (ceil_div n d)
ceil_pos n {d} h = ceil_is (ceil_z (pos n) d) n d h (omega (arith, ceil_above (pos n) h)) (omega (arith, ceil_below (pos n) h))

-- a factor of both numbers cancels
pub ceil_div_cancel : {m : ℕ} (n k : ℕ) → 0 < m → 0 < k → ceil_div (m * n) (m * k) ≡ ceil_div n k
ceil_div_cancel {m} n k p q =
    let c = ceil_div n k in
    ap nat_abs
    (sym (ceil_is (pos c) (m * n) (m * k) (mul-pos p q) (omega (arith, mul-le-mul_left m (ceil_div_above n q)))
    (omega (arith, mul-lt-mul_of_pos_left (ceil_div_below n q) p))))

-- ---- sizes

pub size_ceil : (z : ℤ) (d : ℕ) → nat_abs (ceil_z z d) ≤ nat_abs z
unfolding ceil_z
size_ceil z d = omega (arith, size_neg (floor_z (neg_ℤ z) d), size_floor (neg_ℤ z) d, size_neg z)

-- with the divisor taken into account: w is a bound on the quotient
pub size_floor_by : (z : ℤ) {d w : ℕ} → 0 < d → nat_abs z ≤ w * d → nat_abs (floor_z z d) ≤ w
size_floor_by z {d} {w} t h =
    le_of_suc-le-suc
    (lt_of_mul-lt-mul_right d
    (rw (size_is (floor_z z d))
    (⊎_elim
    (λ q. omega (arith, floor_above z t, size_is z, ap (λ i. i * d) q))
    (λ q. omega (arith, floor_below z t, size_is z, ap (λ i. i * d) q))
    (halves (floor_z z d)))))

pub size_ceil_by : (z : ℤ) {d w : ℕ} → 0 < d → nat_abs z ≤ w * d → nat_abs (ceil_z z d) ≤ w
unfolding ceil_z
size_ceil_by z {d} {w} t h = omega (arith, size_neg (floor_z (neg_ℤ z) d), size_floor_by (neg_ℤ z) {w = w} t (omega (arith, size_neg z)))

-- a bound on the number is one on the quotient
pub floor_div_most : (n : ℕ) {d w : ℕ} → 0 < d → n < (w + 1) * d → n / d ≤ w
floor_div_most n {d} {w} h k = le_of_suc-le-suc (lt_of_mul-lt-mul_right d (omega (arith, floor_div_below n d)))
