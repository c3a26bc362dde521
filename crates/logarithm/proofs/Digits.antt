-- Long division of n by d in digits of 11 bits: after i digits z · d + rest is n · 2048^i, with rest < d.
use Prim.Native.Nat.{ℕ, ◌+◌, ◌*◌, ◌/◌, ◌%◌, ◌^◌, ◌≤◌, ◌<◌}
use mathlib.Core.Path.{◌≡◌, sym, ap}
use native.Mathlib.Omega.{arith}
use native.Mathlib.Nat.{div-add-mod', mod-lt, div-eq_of_lt-le, pow-suc, pow-zero, pow-le-pow_right, one-le-pow, lt_of_mul-lt-mul_right}
use native.Mathlib.{Nat.{mul-lt-mul_of_pos_right, div-lt_iff_lt-mul}, Numerals.{add-one}}
use Rattle.logarithm.specs.Series.{unit}

pub record Digits (n d i z rest : ℕ) : Type 0 where
  pub parts : z * d + rest ≡ n * 2048 ^ i
  pub small : rest < d

pub digits_start : {n d : ℕ} → n < d → Digits n d 0 0 n
digits_start h = record { parts = simp pow-zero (omega arith); small = h }

pub digits_again : {n d i z rest : ℕ} → Digits n d i z rest → Digits n d (i + 1) (z * 2048 + rest * 2048 / d) (rest * 2048 % d)
digits_again {n} {d} {i} {z} {rest} s =
    record {
      parts = rw (add-one, pow-suc) (omega (arith, div-add-mod' (rest * 2048) d, ap (λ t. t * 2048) s.parts));
      small = mod-lt (rest * 2048) (omega (arith, s.small));
    }

module _ {n d i z rest : ℕ} (h : n < d) (s : Digits n d i z rest) where
  digits_below : z < 2048 ^ i
  digits_below = lt_of_mul-lt-mul_right d (omega (arith, s.parts, mul-lt-mul_of_pos_right h (one-le-pow i 2048 (omega arith))))

  power≤ : i ≤ 2 → 2048 ^ i ≤ 2048 ^ 2
  power≤ l = pow-le-pow_right (omega arith) l

  -- before the third digit
  pub digits_few : i < 3 → z < 4194304
  digits_few l = omega (arith, digits_below, power≤ (omega arith))

pub digits_next : {d rest : ℕ} → rest < d → rest * 2048 / d < 2048
digits_next {d} {rest} h = (div-lt_iff_lt-mul {k = d} (omega arith)).1 (omega arith)

pub digits_end : {n d z rest : ℕ} → Digits n d 3 z rest → z ≡ n * unit / d
digits_end {n} {d} {z} s = sym (div-eq_of_lt-le d (omega (arith, s.parts)) (omega (arith, s.parts, s.small)))
