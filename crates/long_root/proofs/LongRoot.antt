-- A root by decimal digits: its start, one digit more, and what keeps it within 64 bits.
use Prim.Native.Nat.{ℕ, ◌+◌, ◌-◌, ◌*◌, ◌/◌, ◌≤◌, ◌<◌}
use mathlib.Core.Path.{◌≡◌}
use native.Mathlib.{Omega.{arith}, Decide.{dec_le}}
use native.Mathlib.Nat.{mul-le-mul, mul-le-mul_right, div-mul-le_self, lt-div-mul-add}
use Rattle.interval.specs.Root.{IsRoot}
use Rattle.long_root.specs.{declared.Root.{Root}, LongRoot.{Squares, radicand, Greatest, Room, Appended, Begun, DigitRoom, IsDigit}}

-- ---- the start

module _ {grid injected u : ℕ} (s : Squares grid injected) (r : IsRoot (grid / injected) u) where
  begun_low : u * u * injected ≤ grid
  begun_low = omega (arith, mul-le-mul_right injected r.low, div-mul-le_self grid injected)

  begun_high : grid < (u + 1) * (u + 1) * injected
  begun_high =
      let h : grid / injected + 1 ≤ (u + 1) * (u + 1) = omega (arith, r.high) in
      omega (arith, mul-le-mul_right injected h, lt-div-mul-add {a = grid} s.some)

  pub begun : Begun grid injected (record { whole = u; rest = grid - u * u * injected })
  unfolding radicand Greatest
  begun = record { greatest = omega (arith, begun_low, begun_high); of_grid = omega (arith, begun_low) }

-- ---- how large a root grows

pub square_le : (a b : ℕ) → a * a ≤ b * b → a ≤ b
square_le a b h = go (dec_le a b)
  where
    go : Dec (a ≤ b) → a ≤ b
    go (yes k) = k
    go (no k) =
        let l : b + 1 ≤ a = omega arith in
        absurd (omega (arith, mul-le-mul l l))

times_small : (w i n m : ℕ) → w * w * i ≤ n → n * i ≤ m * m → w * i ≤ m
times_small w i n m h k = square_le (w * i) m (omega (arith, mul-le-mul_right i h))

module _ {injected : ℕ} {r : Root} (h : Room injected r) where
  pub product_small : r.whole * injected ≤ 3400000000000000
  unfolding radicand
  product_small = times_small r.whole injected (radicand injected r) 3400000000000000 (omega arith) h.product

  pub whole_small : r.whole ≤ 3400000000000000
  whole_small = omega (arith, product_small, mul-le-mul_right r.whole h.some)

  pub rest_small : r.rest < 7000000000000000
  unfolding Greatest
  rest_small = omega (arith, h.greatest, product_small, h.most)

  pub digit_room : DigitRoom r.whole (100 * r.rest) injected
  unfolding Greatest
  digit_room =
      record { ten = omega (arith, h.greatest); whole_small = omega (arith, whole_small); fits = omega (arith, product_small, h.most) }

  -- ---- one digit more

  module _ {d : ℕ} (k : IsDigit r.whole (100 * r.rest) injected d) where
    pub appended : Appended injected r (record { whole = 10 * r.whole + d; rest = 100 * r.rest - (20 * r.whole + d) * d * injected })
    unfolding radicand Greatest
    appended = record { greatest = omega (arith, k.low, k.high); more = omega (arith, k.low) }

-- ---- up to two digits have room for one more

pub room : {grid injected : ℕ} {r : Root} → Squares grid injected → Greatest injected r → (k : ℕ) → k ≤ 10000
    → radicand injected r ≡ k * grid → Room injected r
room s g k h e =
    record { greatest = g; some = s.some; most = s.most; product = rw e (mul-le-mul (mul-le-mul h s.grid_most) s.most) }
