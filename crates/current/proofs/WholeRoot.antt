-- The whole root of t / 10^7, or the next number, is the smallest whose square times 10^7 is at least t.
use Prim.Native.Nat.{ℕ, ◌+◌, ◌*◌, ◌/◌, ◌≤◌, ◌<◌, ◌^◌}
use native.Mathlib.{Omega.{arith}, Nat.{mul-le-mul}}
use Rattle.interval.{specs.Root.{IsRoot}, proofs.Roots.{root_below}}
use Rattle.current.specs.Size.{IsSmallest}

module _ {t r : ℕ} (h : IsRoot (t / 10000000) r) where
  pub root_square : r * r * 10000000 ≤ t
  root_square = omega (arith, h.low)

  pub root_small : t < 2 ^ 60 → r < 524288
  root_small k = root_below h 524288 (omega arith)

  pub root_smallest : t ≤ r * r * 10000000 → IsSmallest t r
  root_smallest k = record { enough = k; least = λ m l. omega (arith, root_square, mul-le-mul l l) }

  pub next_smallest : r * r * 10000000 < t → IsSmallest t (r + 1)
  next_smallest k = record { enough = omega (arith, h.high); least = λ m l. below m (omega arith) }
    where
      below : (m : ℕ) → m ≤ r → m * m * 10000000 < t
      below m l = omega (arith, mul-le-mul l l)
