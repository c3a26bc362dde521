-- Where the halvings of a fraction are known, the ends of its logarithm compute.
use Prim.Native.Nat.{ℕ, ◌+◌, ◌-◌, ◌*◌, ◌/◌, ◌^◌, ◌≤◌, ◌<◌}
use mathlib.Core.Path.{◌≡◌}
use native.Mathlib.{Omega.{arith}, Nat.{mul-le-mul_left}}
use lib.Pow.{pow_pos}
use borrow.Author.Tests.{lt-ltb, le-ltb}
use Rattle.interval.specs.Operations.{natural, minus_of}
use Rattle.logarithm.specs.{Series.{unit}, Ends.{gap, base_of, argument_of, end_of, up_ends, down_ends, ln_ends, close_ends}}
use Rattle.logarithm.proofs.Ratio.{halvings_known}

-- with m halvings: p/q lies from 2^m to 2^(m+1)
abbrev pub argument_by : ℕ → ℕ → ℕ → ℕ
argument_by m p q = (p - q * 2 ^ m) * unit / (p + q * 2 ^ m)

abbrev pub low_by : ℕ → ℕ → ℕ → ℕ
low_by m p q = end_of 0 m (argument_by m p q)

abbrev pub high_by : ℕ → ℕ → ℕ → ℕ
high_by m p q = end_of 1 m (argument_by m p q + 1)

module _ (m p : ℕ) {q : ℕ} (some : 1 ≤ q) (low : q * 2 ^ m ≤ p) (high : p < 2 * (q * 2 ^ m)) where
  from : q ≤ p
  from = omega (arith, mul-le-mul_left q (pow_pos m))

  pub up_by : up_ends p q ≡ natural (low_by m p q) (low_by m p q + gap)
  unfolding up_ends argument_of base_of
  up_by = rw (halvings_known some from m low high)

  pub close_by : close_ends p q ≡ natural (low_by m p q) (high_by m p q)
  unfolding close_ends argument_of base_of
  close_by = rw (halvings_known some from m low high)

pub ln_up_lem : (p q : ℕ) → q ≤ p → ln_ends p q ≡ up_ends p q
unfolding ln_ends
ln_up_lem p q h = rw (le-ltb p q h)

pub ln_down : (p q : ℕ) → p < q → ln_ends p q ≡ minus_of (up_ends q p)
unfolding ln_ends down_ends
ln_down p q h = rw (lt-ltb p q h)
