-- Newton's steps for a whole root: a step from a guess above the root falls, and no step falls below the root.
use Prim.Native.Nat.{ℕ, zero, suc, ◌+◌, ◌*◌, ◌/◌, ◌≤◌, ◌<◌}
use mathlib.Core.Path.{subst}
use native.Mathlib.{Omega.{arith}, Nat.{le_dest, lt-suc_self, mul-le-mul_right, div-lt_iff_lt-mul}, Decide.{dec_le}}

-- twice a product is at most the sum of the squares
product_le_squares : (a b : ℕ) → 2 * (a * b) ≤ a * a + b * b
product_le_squares a b = go (dec_le a b)
  where
    apart : (a d : ℕ) → 2 * (a * (a + d)) ≤ a * a + (a + d) * (a + d)
    apart a d = omega arith

    ordered : {a b : ℕ} → a ≤ b → 2 * (a * b) ≤ a * a + b * b
    ordered {a} h = subst (λ x. 2 * (a * x) ≤ a * a + x * x) (le_dest h).1 (apart a (le_dest h).0)

    go : Dec (a ≤ b) → 2 * (a * b) ≤ a * a + b * b
    go (yes h) = ordered h
    go (no h) = let k : b ≤ a = omega arith in omega (arith, ordered k)

-- n is below r · (n / r + 1), and the mean of r and n / r + 1 is at least the root of their product
mean_above : (n r q m : ℕ) → n < suc q * r → r + q < m + m → n < m * m
mean_above n r q m h k = omega (arith, product_le_squares m r, mul-le-mul_right r k)

module _ (n r : ℕ) where
  pub guess_positive : n < r * r → 0 < r
  guess_positive h = go r h
    where
      go : (r : ℕ) → n < r * r → 0 < r
      go zero h = absurd (omega arith)
      go (suc k) h = omega arith

  pub newton_above : 0 < r → n < ((r + n / r) / 2 + 1) * ((r + n / r) / 2 + 1)
  newton_above h = mean_above n r (n / r) ((r + n / r) / 2 + 1) ((div-lt_iff_lt-mul h).0 (lt-suc_self (n / r))) (omega arith)

  pub quotient_below : n < r * r → n / r < r
  quotient_below h = (div-lt_iff_lt-mul (guess_positive h)).1 h

  pub newton_below : n < r * r → (r + n / r) / 2 < r
  newton_below h = omega (arith, quotient_below h)
