-- The count of halvings, and what holds after each turn of a loop.
use Prim.Native.Nat.{ℕ, zero, suc, max, ◌+◌, ◌-◌, ◌*◌, ◌/◌, ◌^◌, ◌≤◌, ◌<◌}
use mathlib.Core.Path.{◌≡◌}
use native.Mathlib.{Omega.{arith}, Nat.{pow-suc}}
use native.Mathlib.Decide.{dec_le}
use borrow.Author.Tests.{lt-ltb, le-ltb}
use mathlib.Core.Bool.{cond}
use lib.{Dec.{ltb, lit≤}, Pow.{pow_pos}}
use Rattle.exponential.specs.Ends.{billion, unit, levels, halvings_of, nested_of}
use Rattle.std.specs.Int.{div_ceil, IsPowerOfTwo}
use Rattle.exact.proofs.Powers.{exponent_lt_inv}
use Rattle.exponential.proofs.Sizes.{halvings_least, halvings_more}

-- a choice by a test
pub by_test : {A : Type 0} (P : A → Type 0) (m n : ℕ) {x y : A} → (m < n → P x) → (n ≤ m → P y) → P (cond (ltb m n) x y)
by_test P m n {x} {y} h k = go (dec_le n m)
  where
    go : Dec (n ≤ m) → P (cond (ltb m n) x y)
    go (yes p) = rw (le-ltb m n p) (k p)
    go (no p) = let l : m < n = omega arith in rw (lt-ltb m n l) (h l)

-- the power of two that is not below 2q in whole numbers, nor twice the one below it: its exponent counts the halvings
pub halvings_found : (q n p j : ℕ) → n ≡ div_ceil (2 * q) billion → IsPowerOfTwo p → n ≤ p → p / 2 < max 1 n → 2 ^ j ≤ p → p < 2 * 2 ^ j
    → j ≡ halvings_of q
halvings_found q n p j up (k, is) above near low high =
    let a : 2 ^ j < 2 ^ suc k = rw pow-suc (omega arith) in
    let b : 2 ^ k < 2 ^ suc j = rw pow-suc (omega arith) in
    let e : j ≡ k = omega (arith, exponent_lt_inv 2 (lit≤ tt) a, exponent_lt_inv 2 (lit≤ tt) b) in
    omega (arith, e, halvings_least q k (omega arith), least k (rw is at near))
  where
    least : (k : ℕ) → 2 ^ k / 2 < max 1 n → k ≤ halvings_of q
    least zero h = omega arith
    least (suc m) h =
        let t : 2 ^ m < max 1 n = omega (arith, rw pow-suc at h) in
        let l : 2 ^ m * billion < 2 * q = omega (arith, pow_pos m, up) in
        omega (arith, halvings_more q m l)

-- ---- the terms, from the last to the first

pub nested_again : (up y i : ℕ) {sum : ℕ} → 0 < i → i ≤ levels → sum ≡ nested_of up y i (levels - i)
    → unit + (y * sum / (unit * i) + up) ≡ nested_of up y (i - 1) (levels - (i - 1))
unfolding nested_of
nested_again up y zero h l e = absurd (omega arith)
nested_again up y (suc i) h l e =
    let a : suc i - 1 ≡ i = omega arith in
    let b : levels - i ≡ suc (levels - suc i) = omega arith in
    rw (a, b, e)
