-- How large the powers and the sums of the series get, for z up to 3·10^9 units: all products stay within 64 bits.
use Prim.Native.Nat.{ℕ, zero, suc, ◌+◌, ◌*◌, ◌/◌, ◌≤◌, ◌<◌}
use native.Mathlib.{Omega.{arith}, Nat.{mul-le-mul, mul-le-mul_left, div-mul-le_self, div-le_self}}
use Rattle.logarithm.specs.{Series.{unit, term_count, square_of, power_of, term_of, terms_of}, Ends.{ln2, gap, doublings, near_of, end_of}}

-- the largest argument, and the largest square
abbrev pub largest : ℕ
largest = 3000000000

abbrev pub largest_square : ℕ
largest_square = 1100000000

module _ {up z : ℕ} (hu : up ≤ 1) (hz : z ≤ largest) where
  pub square_size : square_of up z ≤ largest_square
  unfolding square_of
  square_size = omega (arith, mul-le-mul hz hz)

  -- a third of a power, at most, is left in the next
  pub power_falls : (p : ℕ) → 3 * (p * square_of up z / unit) ≤ p
  power_falls p = omega (arith, div-mul-le_self (p * square_of up z) unit, mul-le-mul_left p square_size)

  pub power_size : (i : ℕ) → power_of up z i ≤ largest
  unfolding power_of
  power_size zero = hz
  power_size (suc i) = omega (arith, power_falls (power_of up z i), power_size i)

  pub product_size : (i : ℕ) → power_of up z i * square_of up z ≤ largest * largest_square
  product_size i = mul-le-mul (power_size i) square_size

  pub terms_size : (k : ℕ) → terms_of up z k + 3 * power_of up z k ≤ 3 * z + 4 * k
  unfolding terms_of term_of power_of
  terms_size zero = omega arith
  terms_size (suc k) = omega (arith, power_falls (power_of up z k), terms_size k, div-le_self (2 * power_of up z k) (2 * k + 1))

-- ---- the ends

-- 4·10^10 billionths: ln of 10^15 is 34.5
abbrev pub end_bound : ℕ
end_bound = 40000000000

module _ {up m z : ℕ} (hu : up ≤ 1) (hm : m ≤ 49) (hz : z ≤ largest) where
  pub near_size : terms_of up z term_count + up ≤ 9000000037
  near_size = omega (arith, terms_size hu hz term_count)

  pub doublings_size : m * (ln2 + up) ≤ 49 * (ln2 + 1)
  doublings_size =
      let l : ln2 + up ≤ ln2 + 1 = omega arith in
      mul-le-mul hm l

  pub end_size : end_of up m z + gap < end_bound
  unfolding end_of doublings near_of
  end_size = omega (arith, near_size, doublings_size)
