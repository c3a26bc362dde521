-- The halvings and the argument of a fraction inside the range are small.
use Prim.Native.Nat.{ℕ, ◌+◌, ◌^◌, ◌≤◌, ◌<◌}
use native.Mathlib.Omega.{arith}
use lib.Dec.{lit≤}
use Rattle.logarithm.specs.Ends.{gap, Inside, halvings_of, argument_of, end_of}
use Rattle.logarithm.proofs.{Ratio.{halvings_small}, ArgumentEnds.{argument_size}, Sizes.{end_size}}

pub record Small (m z : ℕ) : Type 0 where
  pub times : m ≤ 49
  pub argument : z < 3000000000

pub small : {p q : ℕ} → Inside p → Inside q → q ≤ p → Small (halvings_of p q) (argument_of p q)
small hp hq l = record { times = halvings_small hq.low l hp.high; argument = omega (arith, argument_size hq.low l) }

-- an end of the logarithm, far within 64 bits
pub end_fits : {p q : ℕ} → Inside p → Inside q → q ≤ p → end_of 0 (halvings_of p q) (argument_of p q) + gap < 2 ^ 63
end_fits {p} {q} hp hq l =
    let s = small hp hq l in
    omega (arith, end_size {up = 0} {z = argument_of p q} (lit≤ tt) s.times (omega (arith, s.argument)))
