-- Bounds on a root in whole numbers, by bounds on the number.
use Prim.Native.Nat.{ℕ, ◌+◌, ◌*◌, ◌≤◌, ◌<◌}
use native.Mathlib.{Omega.{arith}, Nat.{mul-le-mul}, Decide.{dec_le}}
use Rattle.interval.specs.Root.{IsRoot}

-- squares rise
square_lt : (a b : ℕ) → a * a < b * b → a < b
square_lt a b h = go (dec_le b a)
  where
    go : Dec (b ≤ a) → a < b
    go (yes k) = absurd (omega (arith, mul-le-mul k k))
    go (no k) = omega arith

module _ {x r : ℕ} (h : IsRoot x r) where
  pub root_below : (m : ℕ) → x < m * m → r < m
  root_below m k = square_lt r m (omega (arith, h.low))

  pub root_from : (m : ℕ) → m * m ≤ x → m ≤ r
  root_from m k = let g = square_lt m (r + 1) (omega (arith, h.high)) in omega arith
