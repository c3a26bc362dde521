-- How far apart the ends of e^−q are for q from a to b: the numbers of the two calculations stay close from step to step.
use Prim.Native.Nat.{ℕ, zero, suc, ◌+◌, ◌-◌, ◌*◌, ◌/◌, ◌^◌, ◌≤◌, ◌<◌, min}
use mathlib.Core.Path.{◌≡◌, refl, ap}
use native.Mathlib.Omega.{arith}
use native.Mathlib.Nat.{le_refl, add-zero, div-mul-le_self, lt-div-mul-add, lt_of_mul-lt-mul_right, mul-le-mul, mul-le-mul_left}
use native.Mathlib.Nat.{mul-le-mul_right, le_of_lt, lt_of_not-le, min-eq_right, pow-suc, pow-le-pow_right}
use native.Mathlib.Decide.{dec_le}
use lib.Pow.{pow_pos}
use Rattle.exponential.specs.Ends.{billion, unit, most, levels, halvings_of, argument_of, nested_of, series_of, inverse_of, squared_of}
use Rattle.exponential.specs.Ends.{end_of, error_of, gap_of}
use Rattle.exponential.proofs.Sizes.{halvings_few, halvings_least, argument_size, nested_size, nested_least, series_least}
use Rattle.exponential.proofs.Sizes.{inverse_most, squared_below}

divided_close : (p q k d : ℕ) → 0 < d → q ≤ p + k * d → q / d ≤ p / d + k + 1
divided_close p q k d h l =
    let x : q / d < p / d + k + 1 = lt_of_mul-lt-mul_right d (omega (arith, lt-div-mul-add {a = p} h, div-mul-le_self q d)) in
    omega arith

-- ---- the series

second_size : (y : ℕ) → y ≤ 2000000000 → 10 * nested_of 0 y 1 (levels - 1) ≤ 10 * unit + 7 * y
unfolding nested_of
second_size y h =
    let r = nested_of 0 y 2 (levels - 2) in
    let few : r ≤ 5600000000 = nested_size {up = 0} (omega arith) (omega arith) 1 (levels - 2) in
    omega (arith, div-mul-le_self (y * r) (2 * unit), mul-le-mul_left y few)

module _ {y z : ℕ} (d : ℕ) (hy : y ≤ 2000000000) (hz : z ≤ 2000000001) (l : z ≤ y + d) where
  -- from the second level on
  later_close : (i n : ℕ) → nested_of 1 z (suc i) n ≤ nested_of 0 y (suc i) n + (d + 3)
  unfolding nested_of
  later_close i zero = omega arith
  later_close i (suc n) =
      let s = nested_of 0 y (suc (suc i)) n in
      let t = nested_of 1 z (suc (suc i)) n in
      let m : 2 * unit ≤ unit * suc (suc i) = omega arith in
      let c = divided_close (y * s) (z * t) (d + 1) (unit * suc (suc i)) (omega arith)
      (omega (
        arith,
        products s t (later_close (suc i) n) (nested_size {up = 1} (omega arith) hz (suc i) n),
        mul-le-mul_left (d + 1)
            m,
      )) in
      omega (arith, c)
    where
      products : (s t : ℕ) → t ≤ s + (d + 3) → t ≤ 5600000000 → z * t ≤ y * s + (d + 1) * (2 * unit)
      products s t h k = omega (arith, mul-le-mul_right t l, mul-le-mul_left y h, mul-le-mul_left d k, mul-le-mul_right (d + 3) hy)

  -- the first level: e^y grows by at most 1 + 2y
  module _ (few : d ≤ 5000) where
    products : (s t : ℕ) → t ≤ s + (d + 3) → 10 * s ≤ 10 * unit + 7 * y → z * t ≤ y * s + d * (unit + 2 * y) + 2 * unit
    products s t h q =
        omega (arith, mul-le-mul_left z h, mul-le-mul_right s l, mul-le-mul_left d q, mul-le-mul_right d l, mul-le-mul few few)

    first_close : (s t : ℕ) → z * t ≤ y * s + d * (unit + 2 * y) + 2 * unit
        → (unit + (z * t / unit + 1) + 1) * unit ≤ (unit + (y * s / unit + 0) + 0) * unit + d * (unit + 2 * y) + 5 * unit
    first_close s t h = omega (arith, h, div-mul-le_self (z * t) unit, lt-div-mul-add {a = y * s} {b = unit} (omega arith))

    series_close : series_of 1 z * unit ≤ series_of 0 y * unit + d * (unit + 2 * y) + 5 * unit
    unfolding series_of nested_of
    series_close =
        let n = levels - 1 in
        first_close _ _ (products (nested_of 0 y 1 n) (nested_of 1 z 1 n) (later_close 0 n) (second_size y hy))

-- ---- one over it

-- 1 + 2y over 1 + y is at most 1 + y
inverse_close : {y s t : ℕ} (d : ℕ) → d ≤ 5000 → y ≤ unit → unit + y ≤ s → unit + y < t
    → t * unit ≤ s * unit + d * (unit + 2 * y) + 5 * unit → inverse_of 1 s ≤ inverse_of 0 t + (d + 8)
unfolding inverse_of
inverse_close {y} {s} {t} d few hy hs ht l =
    let q = unit * unit in
    let v = q / t in
    let p : 0 < t = omega arith in
    let n : unit ≤ t = omega arith in
    let m : v * t ≤ q = div-mul-le_self q t in
    let b : v < unit = lt_of_mul-lt-mul_right t (omega (arith, m)) in
    let w : v ≤ unit = omega arith in
    let e : v * (unit + 2 * y) ≤ unit * s =
    omega (arith, m, mul-le-mul_left v (le_of_lt ht), mul-le-mul_right y w, mul-le-mul_left unit hs) in
    let g : (v + 1) * t ≤ (v + 1) * s + (d + 6) * s = grown v d s t b few (omega arith) e (mul-le-mul_left (v + 1) l) in
    let x : q / s < v + 1 + (d + 6) = lt_of_mul-lt-mul_right s (omega (arith, div-mul-le_self q s, lt-div-mul-add {a = q} p, g)) in
    omega arith
  where
    grown : (v d s t : ℕ) → v < unit → d ≤ 5000 → unit ≤ s → v * (unit + 2 * y) ≤ unit * s
        → (v + 1) * (t * unit) ≤ (v + 1) * (s * unit + d * (unit + 2 * y) + 5 * unit) → (v + 1) * t ≤ (v + 1) * s + (d + 6) * s
    grown v d s t b few hs e k =
        omega (arith, k, mul-le-mul_left d e, mul-le-mul few hy)

-- ---- squared

squared_less : {v : ℕ} → v < unit → (m : ℕ) → squared_of 1 v m < unit
unfolding squared_of
squared_less h zero = h
squared_less {v} h (suc m) =
    let b : squared_of 1 v m ≤ 3999999999 = omega (arith, squared_less h m) in
    omega (arith, mul-le-mul b b)

square_close : (s t d : ℕ) → s ≤ t + d → s ≤ unit → t ≤ unit → s * s / unit ≤ t * t / unit + 2 * d + 1
square_close s t d l hs ht =
    divided_close (t * t) (s * s) (2 * d) unit (omega arith)
    (omega (arith, mul-le-mul_left s l, mul-le-mul_right t l, mul-le-mul_right d hs, mul-le-mul_left d ht))

module _ {u v : ℕ} (d : ℕ) (hu : u < unit) (hv : v ≤ unit) (l : u ≤ v + d) where
  squared_close : (m : ℕ) → squared_of 1 u m + 2 ≤ squared_of 0 v m + 2 ^ m * (d + 2)
  unfolding squared_of
  squared_close zero = omega arith
  squared_close (suc m) =
      step (2 ^ m * (d + 2)) (2 ^ suc m * (d + 2)) (squared_close m)
      (omega (arith, mul-le-mul_right (d + 2) (pow_pos m))) (simp pow-suc (omega arith))
    where
      step : (k k₂ : ℕ) → squared_of 1 u m + 2 ≤ squared_of 0 v m + k → 2 ≤ k → k₂ ≡ 2 * k
          → squared_of 1 u m * squared_of 1 u m / unit + 1 + 2 ≤ squared_of 0 v m * squared_of 0 v m / unit + 0 + k₂
      step k k₂ h p e =
          omega (
            arith,
            square_close (squared_of 1 u m) (squared_of 0 v m) (k - 2) (omega arith) (omega (arith, squared_less hu m))
                (squared_below hv m),
          )

-- from two squarings on, of at most 0.8: the numbers are at most 0.41, and a squaring takes them no further apart
module _ {u v : ℕ} (d : ℕ) (hd : d ≤ 5010) (hd₂ : 8 ≤ d) (hu : u < unit) (hv : v ≤ 3200000000) (l : u ≤ v + d) where
  squared_few : (m : ℕ) → squared_of 0 v (suc (suc m)) ≤ 1640000000
  unfolding squared_of
  squared_few zero =
      let one : v * v / unit + 0 ≤ 2560000000 = omega (arith, mul-le-mul hv hv) in
      omega (arith, mul-le-mul one one)
  squared_few (suc m) = omega (arith, mul-le-mul (squared_few m) (squared_few m))

  no_further : (s t k : ℕ) → s + 2 ≤ t + k → t ≤ 1640000000 → 40 ≤ k → k ≤ 20100 → s * s / unit + 1 + 2 ≤ t * t / unit + 0 + k
  no_further s t k h ht low high =
      let e = k - 2 in
      let n : s ≤ t + e = omega arith in
      let f : e ≤ 20100 = omega arith in
      let c = divided_close (t * t) (s * s) (k - 4) unit (omega arith)
      (omega (arith, mul-le-mul n n, mul-le-mul_right e ht, mul-le-mul_right e f)) in
      omega (arith, c)

  step : (m : ℕ) → squared_of 1 u m + 2 ≤ squared_of 0 v m + 4 * (d + 2) → squared_of 0 v m ≤ 1640000000
      → squared_of 1 u (suc m) + 2 ≤ squared_of 0 v (suc m) + 4 * (d + 2)
  unfolding squared_of
  step m h k = no_further (squared_of 1 u m) (squared_of 0 v m) (4 * (d + 2)) h k (omega arith) (omega arith)

  squared_stays : (m : ℕ) → squared_of 1 u (suc (suc m)) + 2 ≤ squared_of 0 v (suc (suc m)) + 4 * (d + 2)
  squared_stays zero = squared_close d hu (omega (arith, hv)) l 2
  squared_stays (suc m) = step (suc (suc m)) (squared_stays m) (squared_few m)

-- ---- the ends

-- 1 + y at least
series_grows : (up y : ℕ) → unit + y + up ≤ series_of up y
unfolding series_of nested_of
series_grows up y =
    let n = nested_of up y 1 (levels - 1) in
    let d = unit * suc 0 in
    let h : 0 < d = omega arith in
    let c : y < y * n / d + 1 =
    lt_of_mul-lt-mul_right d (omega (arith, lt-div-mul-add {a = y * n} h, mul-le-mul_left y (nested_least up y 1 (levels - 1)))) in
    omega (arith, c)

inverse_less : {s : ℕ} → unit + 4 ≤ s → inverse_of 1 s < unit
unfolding inverse_of
inverse_less {s} h =
    let c : unit * unit / s < unit - 2 =
    lt_of_mul-lt-mul_right s (omega (arith, div-mul-le_self (unit * unit) s, mul-le-mul_left (unit - 2) h)) in
    omega arith

one_over_most : (z : ℕ) → inverse_of 0 (series_of 1 z) ≤ unit
unfolding inverse_of
one_over_most z = omega (arith, inverse_most (series_least 1 z))

-- e^y is at least 1.25 from a quarter on
over_halved : (z : ℕ) → billion < z → inverse_of 0 (series_of 1 z) ≤ 3200000000
unfolding inverse_of
over_halved z h =
    let s = series_of 1 z in
    let c : unit * unit / s < 3200000001 =
    lt_of_mul-lt-mul_right s (omega (arith, div-mul-le_self (unit * unit) s, series_grows 1 z)) in
    omega arith

-- d parts of at least 4 each
parted : {p : ℕ} (w d : ℕ) → 4 ≤ p → p * d ≤ 4 * w + 2 * p → d ≤ w + 2
parted {p} w d h k = go (dec_le d (w + 2))
  where
    go : Dec (d ≤ w + 2) → d ≤ w + 2
    go (yes m) = m
    go (no m) =
        let n : w + 3 ≤ d = omega arith in
        absurd (omega (arith, k, mul-le-mul_left p n, mul-le-mul_right w h))

-- two quotients by p
apart : {a b p : ℕ} → 0 < p → a ≤ b → p * (4 * b / p + 1 - 4 * a / p) ≤ 4 * (b - a) + 2 * p
apart {a} {b} {p} h l =
    let x = lt-div-mul-add {a = 4 * a} h in
    let y : 4 * a / p < 4 * b / p + 1 = lt_of_mul-lt-mul_right p (omega (arith, div-mul-le_self (4 * a) p, lt-div-mul-add {a = 4 * b} h)) in
    let e : (4 * b / p + 1 - 4 * a / p) + 4 * a / p ≡ 4 * b / p + 1 = omega arith in
    omega (arith, x, div-mul-le_self (4 * b) p, ap (λ t. p * t) e)

-- an exponent of at least 65536 billionths keeps the upper end below 1
module _ {a b : ℕ} (low : 65536 ≤ a) (l : a ≤ b) (high : b ≤ most) where
  abbrev p : ℕ
  p = 2 ^ halvings_of b

  four : 4 ≤ 4 * a / p
  four =
      let m : p ≤ 2 ^ 14 = pow-le-pow_right (omega arith) (halvings_few high) in
      let c : 4 < 4 * a / p + 1 = lt_of_mul-lt-mul_right p (omega (arith, lt-div-mul-add {a = 4 * a} (pow_pos (halvings_of b)))) in
      omega arith

  later : 4 * a / p < 4 * b / p + 1
  later = lt_of_mul-lt-mul_right p (omega (arith, div-mul-le_self (4 * a) p, lt-div-mul-add {a = 4 * b} (pow_pos (halvings_of b))))

  inverse_low : inverse_of 1 (series_of 0 (4 * a / p)) < unit
  inverse_low = inverse_less (omega (arith, series_grows 0 (4 * a / p), four))

  pub end_less : end_of 1 0 (halvings_of b) a < unit
  unfolding end_of argument_of
  end_less = rw add-zero (squared_less inverse_low (halvings_of b))

  -- the parts of b are more than a quarter where it is halved
  halved_more : 1 ≤ halvings_of b → billion ≤ 4 * b / p
  halved_more h = go (halvings_of b) refl h
    where
      go : (j : ℕ) → halvings_of b ≡ j → 1 ≤ j → billion ≤ 4 * b / 2 ^ j
      go zero e k = absurd (omega arith)
      go (suc j) e k =
          let m : 2 ^ j * billion < 2 * b = lt_of_not-le (λ n. omega (arith, halvings_least b j n, e)) in
          let c : billion < 4 * b / 2 ^ suc j + 1 =
          lt_of_mul-lt-mul_right (2 ^ suc j) (omega (arith, m, pow-suc 2 j, lt-div-mul-add {a = 4 * b} (pow_pos (suc j)))) in
          omega arith

  -- in quarters of a billionth: four for a billionth between the exponents, and 12 for each of 2^j parts, at most four
  pub end_close : b ≤ a + 1000 → end_of 1 0 (halvings_of b) a ≤ end_of 0 1 (halvings_of b) b + gap_of (halvings_of b) a b
  unfolding end_of argument_of gap_of error_of
  end_close near =
      let y = 4 * a / p in
      let z = 4 * b / p + 1 in
      let d = z - y in
      let o = apart (pow_pos (halvings_of b)) l in
      let less : d < 5001 = lt_of_mul-lt-mul_right p (omega (arith, o, pow_pos (halvings_of b))) in
      let few : d ≤ 5000 = omega arith in
      let hy : y ≤ 2000000000 = argument_size l in
      let s = series_close {y = y} {z = z} d hy (omega (arith, argument_size (le_refl b))) (omega arith) few in
      let v = inverse_close d few (omega (arith, hy)) (omega (arith, series_grows 0 y)) (omega (arith, series_grows 1 z, later)) s in
      rw add-zero (by_count (halvings_of b) refl d few o v)
    where
      by_count : (j : ℕ) → halvings_of b ≡ j → (d : ℕ) → d ≤ 5000 → p * d ≤ 4 * (b - a) + 2 * p
          → inverse_of 1 (series_of 0 (4 * a / p)) ≤ inverse_of 0 (series_of 1 (4 * b / p + 1)) + (d + 8)
          → squared_of 1 (inverse_of 1 (series_of 0 (4 * a / p))) j
          ≤ squared_of 0 (inverse_of 0 (series_of 1 (4 * b / p + 1))) j + (4 * (b - a) + (12 * 2 ^ min j 2 - 2))
      by_count zero e d few o v =
          omega (arith, squared_close (d + 8) inverse_low (one_over_most (4 * b / p + 1)) v 0, o, ap (λ t. 2 ^ t * d) e, ap (λ t. 2 ^ t) e)
      by_count (suc zero) e d few o v =
          omega (arith, squared_close (d + 8) inverse_low (one_over_most (4 * b / p + 1)) v 1, o, ap (λ t. 2 ^ t * d) e, ap (λ t. 2 ^ t) e)
      by_count (suc (suc j)) e d few o v =
          let two : 2 ≤ suc (suc j) = omega arith in
          let four : 4 ≤ p = rw (e, pow-suc, pow-suc) (omega (arith, pow_pos j)) in
          let near : d ≤ b - a + 2 = parted (b - a) d four o in
          let low = over_halved (4 * b / p + 1) (omega (arith, halved_more (omega arith))) in
          rw (min-eq_right two) (omega (arith, near, squared_stays (d + 8) (omega arith) (omega arith) inverse_low low v j))
