-- The first guess of a whole root: Newton's step from a power of two whose square is above the number.
use Prim.Native.Nat.{ℕ, ◌+◌, ◌*◌, ◌/◌, ◌%◌, ◌^◌, ◌≤◌, ◌<◌}
use mathlib.Core.Path.{◌≡◌, ◌∙◌}
use native.Mathlib.{Omega.{arith}, Nat.{lt_of_lt_of_le, le_trans, le_of_eq, one-mul}}
use lib.{Dec.{lit<}, Pow.{pow_mono, pow-add, shl_exact}}
use mir.{Syntax.{w64}, Val.{Fits}}
use Rattle.interval.specs.Root.{NotBelow}
use Rattle.interval.proofs.Newton.{guess_positive, quotient_below, newton_above}

-- x has m bits, and l is at least half as many
module _ (l : ℕ) (most : l ≤ 32) (x m : ℕ) (bits : x < 2 ^ m) (twice : m ≤ l + l) where
  -- `1 << l` keeps its one bit
  shift : (1 * 2 ^ l) % 2 ^ 64 ≡ 2 ^ l
  shift = shl_exact {a = 1} 1 l 64 (lit< tt) (omega arith) ∙ one-mul (2 ^ l)

  square : x < 2 ^ l * 2 ^ l
  square = lt_of_lt_of_le bits (le_trans (pow_mono twice) (le_of_eq (pow-add 2 l l)))

  small : 2 ^ l ≤ 2 ^ 32
  small = pow_mono most

  step_small : (1 * 2 ^ l) % 2 ^ 64 + x / 2 ^ l < 2 ^ 33
  step_small = rw shift (omega (arith, quotient_below x (2 ^ l) square, small))

  pub step_fits : Fits w64 ((1 * 2 ^ l) % 2 ^ 64 + x / 2 ^ l)
  step_fits = record { fits = omega (arith, step_small) }

  pub step_not_below : NotBelow x (((1 * 2 ^ l) % 2 ^ 64 + x / 2 ^ l) / 2)
  step_not_below =
      record { high = rw shift (newton_above x (2 ^ l) (guess_positive x (2 ^ l) square)); small = omega (arith, step_small) }
