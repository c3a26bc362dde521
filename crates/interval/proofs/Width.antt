-- How wide the result of each operation is.
use Prim.Native.Nat.{ℕ, ◌+◌, ◌≤◌}
use native.Mathlib.Omega.{arith}
use Rattle.interval.specs.Operations.{natural, Narrow}

pub width_natural : (a : ℕ) {b : ℕ} (n : ℕ) → b ≤ a + n → Narrow (natural a b) n
unfolding natural
width_natural a n h = record { narrow = omega arith }
