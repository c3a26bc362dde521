-- A series of falling terms with changing signs: an even number of them is not above an odd number of them.
use Prim.Native.Nat.{ℕ, zero, suc, ◌+◌, ◌*◌}
use mathlib.Core.Path.{◌≡◌, refl}
use native.Mathlib.Omega.{arith}
use Rattle.exact.specs.{Fraction.{Fraction, ◌≤f◌, whole, ◌−f◌}, Pi.{alternating}}
use Rattle.exact.proofs.{Order.{refl≤, trans≤}, Sums.{mono−, minus≤, sub_nonneg}}

double : ℕ → ℕ
double zero = zero
double (suc k) = suc (suc (double k))

double_is : (k : ℕ) → 2 * k ≡ double k
unfolding double
double_is zero = refl
double_is (suc k) = omega (arith, double_is k)

odd_is : (k : ℕ) → 2 * k + 1 ≡ suc (double k)
odd_is k = omega (arith, double_is k)

-- terms that never rise and are never negative
pub record Falls (t : ℕ → Fraction) : Type 0 where
  pub falls : (i : ℕ) → t (suc i) ≤f t i
  pub stays : (i : ℕ) → whole 0 ≤f t i

later : {t : ℕ → Fraction} → Falls t → Falls (λ i. t (suc i))
later h = record { falls = λ i. h.falls (suc i); stays = λ i. h.stays (suc i) }

-- no number of terms is negative: two steps take off t 0 − t 1
pair_nonneg : (t : ℕ → Fraction) {r : Fraction} → Falls t → whole 0 ≤f r → whole 0 ≤f t 0 −f (t 1 −f r)
pair_nonneg t h l = sub_nonneg (trans≤ (minus≤ (t 1) l) (h.falls 0))

alternating_nonneg : (t : ℕ → Fraction) → Falls t → (n : ℕ) → whole 0 ≤f alternating t n
unfolding alternating
alternating_nonneg t h zero = refl≤ (whole 0)
alternating_nonneg t h (suc zero) = sub_nonneg (h.stays 0)
alternating_nonneg t h (suc (suc n)) = pair_nonneg t h (alternating_nonneg (λ i. t (suc (suc i))) (later (later h)) n)

first_high : (t : ℕ → Fraction) → Falls t → (n : ℕ) → alternating t (suc n) ≤f t 0
unfolding alternating
first_high t h n = minus≤ (t 0) (alternating_nonneg (λ i. t (suc i)) (later h) n)

doubles_cross : (t : ℕ → Fraction) → Falls t → (j k : ℕ) → alternating t (double j) ≤f alternating t (suc (double k))
unfolding alternating double
doubles_cross t h zero k = alternating_nonneg t h (suc (double k))
doubles_cross t h (suc j) zero = mono− (refl≤ (t 0)) (alternating_nonneg (λ i. t (suc i)) (later h) (suc (double j)))
doubles_cross t h (suc j) (suc k) = mono− (refl≤ (t 0)) (mono− (refl≤ (t 1)) (doubles_cross (λ i. t (suc (suc i))) (later (later h)) j k))

module _ (t : ℕ → Fraction) (h : Falls t) where
  pub alternating_cross : (j k : ℕ) → alternating t (2 * j) ≤f alternating t (2 * k + 1)
  alternating_cross j k = rw (double_is j, odd_is k) (doubles_cross t h j k)

  -- from the first term less the second, up to the first term
  pub alternating_low : (k : ℕ) → t 0 −f t 1 ≤f alternating t (2 * suc k)
  unfolding alternating double
  alternating_low k = rw (double_is (suc k)) (mono− (refl≤ (t 0)) (first_high (λ i. t (suc i)) (later h) (double k)))

  pub alternating_high : (k : ℕ) → alternating t (2 * k + 1) ≤f t 0
  alternating_high k = rw (odd_is k) (first_high t h (double k))
