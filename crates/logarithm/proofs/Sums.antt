-- The loop of the series: after i turns the power and the sum are those of the definition, and all its numbers fit.
use Prim.Native.Nat.{ℕ, ◌+◌, ◌*◌, ◌/◌, ◌≤◌}
use mathlib.Core.Path.{◌≡◌, refl, sym}
use native.Mathlib.{Omega.{arith}, Nat.{add-zero}, Numerals.{add-one}}
use lib.Dec.{lit≤}
use Rattle.logarithm.specs.Series.{unit, square_of, power_of, term_of, terms_of}
use Rattle.logarithm.proofs.Sizes.{largest, largest_square, power_size, product_size, terms_size}

pub record Summed (z square i power sum : ℕ) : Type 0 where
  pub square_is : square ≡ square_of 0 z
  pub power_is : power ≡ power_of 0 z i
  pub sum_is : sum ≡ terms_of 0 z i

-- what fits 64 bits
pub record Fitting (square i power sum : ℕ) : Type 0 where
  pub power_fits : power ≤ largest
  pub product_fits : power * square ≤ largest * largest_square
  pub sum_fits : sum + 3 * power ≤ 3 * largest + 4 * i

pub summed_start : (z : ℕ) → Summed z (z * z / unit) 0 z 0
unfolding square_of power_of terms_of
summed_start z = record { square_is = sym (add-zero (z * z / unit)); power_is = refl; sum_is = refl }

module _ {z square i power sum : ℕ} (s : Summed z square i power sum) where
  pub summed_again : Summed z square (i + 1) (power * square / unit) (sum + 2 * power / (2 * i + 1))
  unfolding power_of terms_of term_of
  summed_again =
      record {
        square_is = s.square_is;
        power_is = rw (add-one i, add-zero) (cc);
        sum_is = rw (add-one i, add-zero (2 * power_of 0 z i / (2 * i + 1))) (cc);
      }

  pub fitting : z ≤ largest → Fitting square i power sum
  fitting hz =
      let hu : 0 ≤ 1 = lit≤ tt in
      rw (s.square_is, s.power_is, s.sum_is)
      (record { power_fits = power_size hu hz i; product_fits = product_size hu hz i; sum_fits = omega (arith, terms_size hu hz i) })
