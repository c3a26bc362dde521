-- When a product over a divisor is computed within 64 bits, though the product itself may exceed them.
use Rattle.std.specs.Prelude.{ℕ, ◌+◌, ◌*◌, ◌/◌, ◌^◌, ◌<◌}

-- k · (x / den) and k · (x % den) with their sums
pub record WideFits (k x den : ℕ) : Type 0 where
  pub divisor : 0 < den
  pub rest : k * den + den < 2 ^ 63
  pub quotient : k * (x / den) + k < 2 ^ 63
