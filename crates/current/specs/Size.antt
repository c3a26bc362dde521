-- How the conductor size (§4.9) is computed within 64 bits: the square of I·Kf times t, in units that lose nothing by rounding up.
use Rattle.std.specs.Prelude.{ℕ, ◌+◌, ◌*◌, ◌/◌, ◌%◌, ◌≤◌, ◌<◌}
use Rattle.whole.specs.Whole.{ceil_div}

-- a part of the square, and what is carried to it from the part below, over a million
unfoldable pub carried_of : ℕ → ℕ → ℕ
carried_of n below = ceil_div (n + below) 1000000

-- x² · ms / 10^24 rounded up, by the three parts of x: u·10^12 + v·10^6 + w
unfoldable pub square_of : ℕ → ℕ → ℕ → ℕ → ℕ
square_of u v w ms =
    u * u * ms
    + carried_of (2 * u * v * ms) (carried_of (2 * u * w * ms + v * v * ms) (carried_of (2 * v * w * ms) (carried_of (w * w * ms) 0)))

-- what they are within
pub record Parts (u v w ms : ℕ) : Type 0 where
  pub upper : u < 1000000
  pub middle : v < 1000000
  pub lower : w < 1000000
  pub time : ms ≤ 3000

unfoldable pub square_load : ℕ → ℕ → ℕ
square_load x ms = square_of (x / 1000000 / 1000000) (x / 1000000 % 1000000) (x % 1000000) ms

-- a is the smallest number whose square times 10^7 is at least t
pub record IsSmallest (t a : ℕ) : Type 0 where
  pub enough : t ≤ a * a * 10000000
  pub least : (m : ℕ) → m < a → m * m * 10000000 < t
