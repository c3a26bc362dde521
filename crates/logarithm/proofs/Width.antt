-- How far apart the upper and the lower ends are: the numbers of the two series stay close from step to step.
use Prim.Native.Nat.{ℕ, zero, suc, ◌+◌, ◌*◌, ◌/◌, ◌≤◌, ◌<◌}
use native.Mathlib.{Omega.{arith}, Nat.{add-suc, div-mul-le_self, lt-div-mul-add, lt_of_mul-lt-mul_right, mul-le-mul}}
use lib.Dec.{lit<}
use Rattle.logarithm.specs.{Series.{unit, square_of, power_of, term_of, terms_of}, Ends.{gap, doublings, near_of, end_of}}
use Rattle.logarithm.proofs.Sizes.{largest, square_size, power_size}

-- b is at most k above a
pub record Close (k a b : ℕ) : Type 0 where
  pub low : a ≤ b
  pub high : b ≤ a + k

-- divided, and the upper one rounded up
close_rounded : {k a b d : ℕ} → 0 < d → a ≤ b → b ≤ a + k * d → Close (suc k) (a / d + 0) (b / d + 1)
close_rounded {k} {a} {b} {d} h l u =
    let lo = lt-div-mul-add {a = a} h in
    let hi = lt-div-mul-add {a = b} h in
    let x : a / d < b / d + 1 = lt_of_mul-lt-mul_right d (omega (arith, hi, div-mul-le_self a d)) in
    let y : b / d < a / d + k + 1 = lt_of_mul-lt-mul_right d (omega (arith, lo, div-mul-le_self b d)) in
    record { low = omega arith; high = omega arith }

module _ (z : ℕ) (h : 3 * z ≤ unit) where
  below : z ≤ largest
  below = omega arith

  square_close : Close 2 (square_of 0 z) (square_of 1 (z + 1))
  unfolding square_of
  square_close = close_rounded (lit< tt) (omega arith) (omega arith)

  power_close : (i : ℕ) → Close 2 (power_of 0 z i) (power_of 1 (z + 1) i)
  unfolding power_of
  power_close zero = record { low = omega arith; high = omega arith }
  power_close (suc i) =
      let p = power_close i in
      let s = square_close in
      close_rounded (lit< tt) (mul-le-mul p.low s.low)
      (omega (arith, mul-le-mul p.high s.high, power_size {up = 0} (omega arith) below i, square_size {up = 0} (omega arith) below))

  first_close : Close 3 (term_of 0 z 0) (term_of 1 (z + 1) 0)
  unfolding term_of power_of
  first_close = close_rounded (lit< tt) (omega arith) (omega arith)

  second_close : Close 3 (term_of 0 z 1) (term_of 1 (z + 1) 1)
  unfolding term_of
  second_close = let p = power_close 1 in close_rounded (lit< tt) (omega arith) (omega arith)

  later_close : (i : ℕ) → Close 2 (term_of 0 z (2 + i)) (term_of 1 (z + 1) (2 + i))
  unfolding term_of
  later_close i = let p = power_close (2 + i) in close_rounded (omega arith) (omega arith) (omega arith)

  terms_close : (k : ℕ) → Close (6 + 2 * k) (terms_of 0 z (2 + k)) (terms_of 1 (z + 1) (2 + k))
  unfolding terms_of
  terms_close zero = let s = first_close in let t = second_close in record { low = omega arith; high = omega arith }
  terms_close (suc k) =
      let t = terms_close k in
      let s = later_close k in
      rw add-suc (record { low = omega arith; high = omega arith })

  near_close : Close 4 (near_of 0 z) (near_of 1 (z + 1))
  unfolding near_of
  near_close =
      let t = terms_close 7 in
      close_rounded (lit< tt) (omega arith) (omega arith)

  doublings_close : {m : ℕ} → m ≤ 49 → Close 2 (doublings 0 m) (doublings 1 m)
  unfolding doublings
  doublings_close l = close_rounded (lit< tt) (omega arith) (omega arith)

  pub end_close : {m : ℕ} → m ≤ 49 → Close gap (end_of 0 m z) (end_of 1 m (z + 1))
  unfolding end_of
  end_close l =
      let d = doublings_close l in
      let n = near_close in
      record { low = omega arith; high = omega arith }
