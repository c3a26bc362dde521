-- The square of I-as-Kf times t by three parts: it fits 64 bits, and rounding up four times rounds up once.
use Prim.Native.Nat.{ℕ, ◌+◌, ◌*◌, ◌/◌, ◌%◌, ◌^◌, ◌≤◌, ◌<◌}
use mathlib.Core.Path.{◌≡◌}
use native.Mathlib.{Omega.{arith}, Nat.{mul-le-mul, div-add-mod'}}
use lib.Dec.{lit<}
use Rattle.whole.proofs.Rounding.{ceil_div_above, ceil_div_below, ceil_div_by}
use Rattle.current.specs.Size.{carried_of, square_of, Parts, square_load}

module _ (n below : ℕ) where
  carried_low : n + below ≤ carried_of n below * 1000000
  unfolding carried_of
  carried_low = ceil_div_above (n + below) (lit< tt)

  carried_high : carried_of n below * 1000000 < n + below + 1000000
  unfolding carried_of
  carried_high = ceil_div_below (n + below) (lit< tt)

  pub carried_small : carried_of n below ≤ n + below
  unfolding carried_of
  carried_small = ceil_div_by (n + below) {d = 1000000} (lit< tt) (omega arith)

-- ---- sizes

pub part_small : {p q ms : ℕ} → p < 2000000 → q < 1000000 → ms ≤ 3000 → p * q * ms ≤ 6000000000000000
part_small {p} {q} {ms} hp hq hm =
    let i : p ≤ 2000000 = omega arith in
    let j : q ≤ 1000000 = omega arith in
    mul-le-mul (mul-le-mul i j) hm

-- ---- the value: p is a part, l what is carried from it

sum_low : (p0 p1 p2 p3 p4 l1 l2 l3 l4 : ℕ) → p0 + 0 ≤ l1 * 1000000 → p1 + l1 ≤ l2 * 1000000 → p2 + l2 ≤ l3 * 1000000
    → p3 + l3 ≤ l4 * 1000000 → p4 * 10 ^ 24 + p3 * 10 ^ 18 + p2 * 10 ^ 12 + p1 * 10 ^ 6 + p0 ≤ (p4 + l4) * 10 ^ 24
sum_low p0 p1 p2 p3 p4 l1 l2 l3 l4 a b c d = omega arith

sum_high : (p0 p1 p2 p3 p4 l1 l2 l3 l4 : ℕ) → l1 * 1000000 < p0 + 0 + 1000000 → l2 * 1000000 < p1 + l1 + 1000000
    → l3 * 1000000 < p2 + l2 + 1000000 → l4 * 1000000 < p3 + l3 + 1000000
    → (p4 + l4) * 10 ^ 24 < p4 * 10 ^ 24 + p3 * 10 ^ 18 + p2 * 10 ^ 12 + p1 * 10 ^ 6 + p0 + 10 ^ 24
sum_high p0 p1 p2 p3 p4 l1 l2 l3 l4 a b c d = omega arith

module _ (u v w ms : ℕ) where
  -- the square by its parts
  parts : (u * 10 ^ 12 + v * 10 ^ 6 + w) * (u * 10 ^ 12 + v * 10 ^ 6 + w) * ms
      ≡ u * u * ms * 10 ^ 24 + 2 * u * v * ms * 10 ^ 18 + (2 * u * w * ms + v * v * ms) * 10 ^ 12 + 2 * v * w * ms * 10 ^ 6 + w * w * ms
  parts = omega arith

  -- what is carried from each part
  unfoldable pub lowest : ℕ
  lowest = carried_of (w * w * ms) 0

  unfoldable pub low : ℕ
  low = carried_of (2 * v * w * ms) lowest

  unfoldable pub middle : ℕ
  middle = carried_of (2 * u * w * ms + v * v * ms) low

  unfoldable pub high : ℕ
  high = carried_of (2 * u * v * ms) middle

  square_low : (u * 10 ^ 12 + v * 10 ^ 6 + w) * (u * 10 ^ 12 + v * 10 ^ 6 + w) * ms ≤ square_of u v w ms * 10 ^ 24
  unfolding square_of lowest low middle high
  square_low =
      rw parts
      (sum_low _ _ _ _ _ lowest low middle high (carried_low (w * w * ms) 0) (carried_low (2 * v * w * ms) lowest)
      (carried_low (2 * u * w * ms + v * v * ms) low) (carried_low (2 * u * v * ms) middle))

  square_high : square_of u v w ms * 10 ^ 24 < (u * 10 ^ 12 + v * 10 ^ 6 + w) * (u * 10 ^ 12 + v * 10 ^ 6 + w) * ms + 10 ^ 24
  unfolding square_of lowest low middle high
  square_high =
      rw parts
      (sum_high _ _ _ _ _ lowest low middle high (carried_high (w * w * ms) 0) (carried_high (2 * v * w * ms) lowest)
      (carried_high (2 * u * w * ms + v * v * ms) low) (carried_high (2 * u * v * ms) middle))

  -- their sizes
  module _ (h : Parts u v w ms) where
    twice : {p : ℕ} → p < 1000000 → 2 * p < 2000000
    twice h = omega arith

    pub lowest_small : lowest ≤ 6000000000000000
    unfolding lowest
    lowest_small = omega (arith, carried_small (w * w * ms) 0, part_small {p = w} (omega arith) h.lower h.time)

    pub low_small : low ≤ 12000000000000000
    unfolding low
    low_small = omega (arith, carried_small (2 * v * w * ms) lowest, part_small (twice h.middle) h.lower h.time, lowest_small)

    pub middle_small : middle ≤ 24000000000000000
    unfolding middle
    middle_small =
        omega (
          arith,
          carried_small (2 * u * w * ms + v * v * ms) low,
          part_small (twice h.upper) h.lower h.time,
          part_small
              {p = v} (omega arith) h.middle h.time,
          low_small,
        )

    pub high_small : high ≤ 30000000000000000
    unfolding high
    high_small = omega (arith, carried_small (2 * u * v * ms) middle, part_small (twice h.upper) h.middle h.time, middle_small)

    pub square_small : square_of u v w ms < 2 ^ 60
    unfolding square_of lowest low middle high
    square_small = omega (arith, high_small, part_small {p = u} (omega arith) h.upper h.time)

-- ---- the parts of x

module _ (x ms : ℕ) where
  whole_of : x / 1000000 / 1000000 * 10 ^ 12 + x / 1000000 % 1000000 * 10 ^ 6 + x % 1000000 ≡ x
  whole_of = omega (arith, div-add-mod' x 1000000, div-add-mod' (x / 1000000) 1000000)

  pub load_low : x * x * ms ≤ square_load x ms * 10 ^ 24
  unfolding square_load
  load_low = rw whole_of at (square_low (x / 1000000 / 1000000) (x / 1000000 % 1000000) (x % 1000000) ms)

  pub load_high : square_load x ms * 10 ^ 24 < x * x * ms + 10 ^ 24
  unfolding square_load
  load_high = rw whole_of at (square_high (x / 1000000 / 1000000) (x / 1000000 % 1000000) (x % 1000000) ms)

  module _ (hx : x < 10 ^ 18) (hm : ms ≤ 3000) where
    pub within : Parts (x / 1000000 / 1000000) (x / 1000000 % 1000000) (x % 1000000) ms
    within = record { upper = omega arith; middle = omega arith; lower = omega arith; time = hm }

    pub load_bound : square_load x ms < 2 ^ 60
    unfolding square_load
    load_bound = square_small _ _ _ ms within
