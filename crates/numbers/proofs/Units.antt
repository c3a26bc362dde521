-- 1 / 2^k, the unit in which the ends of a value come together.
use Prim.Native.Nat.{ℕ, zero, suc, ◌^◌, ◌≤◌}
use native.Mathlib.{Omega.{arith}, Nat.{pow-suc, pow-le-pow_right}}
use lib.Pow.{pow_pos}
use Rattle.exact.specs.Fraction.{Fraction, ◌≤f◌, ◌≈f◌, whole, ◌+f◌, ◌·f◌, inv, powf, sum_of}
use Rattle.exact.proofs.{Order.{trans≤, refl≈, sym≈, trans≈, whole≤, whole_pos, nonneg}, Sums.{cong+, le+, add_assoc}}
use Rattle.exact.proofs.{Products.{mul_left≤, mul_nonneg, mul_one, cong·, whole_mul}, Quotients.{inv≤, inv_nonneg, split_inv}}
use Rattle.exact.proofs.{Divisors.{inv_cong}, Series.{pow≤}, Squarings.{pow_inv}, ExpTerms.{half, double_sum}, Exponential.{inverse_high}}
use Rattle.exact.proofs.Convolution.{zero-add}

abbrev pub unit : ℕ → Fraction
unit k = inv (whole (2 ^ k))

pub unit_nonneg : (k : ℕ) → whole 0 ≤f unit k
unit_nonneg k = inv_nonneg (whole (2 ^ k))

pub unit_high : (k : ℕ) → unit k ≤f whole 1
unit_high k = inverse_high (whole≤ (pow_pos k))

pub units_nonneg : (n k : ℕ) → whole 0 ≤f whole n ·f unit k
units_nonneg n k = mul_nonneg (nonneg n) (unit_nonneg k)

pub units_high : (n k : ℕ) → whole n ·f unit k ≤f whole n
units_high n k = trans≤ (mul_left≤ (nonneg n) (unit_high k)) (mul_one (whole n)).to

pub unit≤ : {m n : ℕ} → m ≤ n → unit n ≤f unit m
unit≤ {m} l = inv≤ (whole_pos (pow_pos m)) (whole≤ (pow-le-pow_right (omega arith) l))

unit_double : (k : ℕ) → whole 2 ·f unit (suc k) ≈f unit k
unit_double k =
    trans≈ (cong· (refl≈ _) (inv_cong (whole_pos (pow_pos (suc k))) (rw pow-suc (whole_mul (2 ^ k) 2))))
    (split_inv (whole_pos (pow_pos k)) (whole_pos (omega arith)))

two_power : (n : ℕ) → powf (whole 2) n ≈f whole (2 ^ n)
unfolding powf
two_power zero = refl≈ (whole 1)
two_power (suc n) = trans≈ (cong· (two_power n) (refl≈ (whole 2))) (rw pow-suc (sym≈ (whole_mul (2 ^ n) 2)))

pub half_power_lem : (n : ℕ) → powf half n ≈f unit n
half_power_lem n = trans≈ (pow_inv (whole_pos (omega arith)) n) (sym≈ (inv_cong (whole_pos (pow_pos n)) (sym≈ (two_power n))))

-- powers of what is at most 1/2
pub power≤unit : {z : Fraction} → whole 0 ≤f z → z ≤f half → (n : ℕ) → powf z n ≤f unit n
power≤unit n l k = trans≤ (pow≤ n l k) (half_power_lem k).to

-- ---- 1 + 1/2 + 1/4 + .. is at most 2

units_sum : (k : ℕ) → sum_of unit k +f whole 2 ·f unit k ≈f whole 2
unfolding sum_of powf
units_sum zero = trans≈ (zero-add _) start
  where
    start : whole 2 ·f unit 0 ≈f whole 2
    start = trans≈ (cong· (refl≈ (whole 2)) (sym≈ (half_power_lem 0))) (mul_one (whole 2))
units_sum (suc k) =
    trans≈ (add_assoc (sum_of unit k) (unit k) _)
    (trans≈ (cong+ (refl≈ _) (trans≈ (cong+ (refl≈ _) (unit_double k)) (sym≈ (double_sum (unit k))))) (units_sum k))

pub units_sum≤ : (k : ℕ) → sum_of unit k ≤f whole 2
units_sum≤ k = trans≤ (le+ (mul_nonneg (nonneg 2) (unit_nonneg k))) (units_sum k).to
