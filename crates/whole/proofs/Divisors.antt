-- A number over two divisors in order: which of the two quotients is the lesser, by the number's sign.
use Prim.Native.Nat.{ℕ, suc, ◌*◌, ◌/◌, ◌≤◌, ◌<◌}
use mathlib.Core.Path.{◌≡◌, refl, sym, ap, ◌∙◌}
use native.Mathlib.{Nat.{lt-suc_self, lt_of_lt_of_le, le_antisymm, mul-le-mul_left, div-lt_iff_lt-mul}, Omega.{arith}}
use lib.{Dec.{leb→le}, IntN.{ℤ, pos, negsuc, neg_ℤ}}
use Rattle.whole.specs.Whole.{floor_z, min_z, max_z}
use Rattle.whole.proofs.Choice.{min_cases, min_falling, max_falling}
use Rattle.whole.proofs.BelowZero as below

module _ (n : ℕ) {d e : ℕ} (p : 0 < d) (h : d ≤ e) where
  falls : n / e ≤ n / d
  falls =
      let a : n < suc (n / d) * d = (div-lt_iff_lt-mul p).0 (lt-suc_self (n / d)) in
      let b : n / e < suc (n / d) = (div-lt_iff_lt-mul {k = e} (omega arith)).1 (lt_of_lt_of_le a (mul-le-mul_left (suc (n / d)) h)) in
      omega arith

  pub least_from_zero : min_z (floor_z (pos n) d) (floor_z (pos n) e) ≡ floor_z (pos n) e
  unfolding floor_z
  least_from_zero = min_falling falls

  pub least_below_zero : min_z (floor_z (negsuc n) d) (floor_z (negsuc n) e) ≡ floor_z (negsuc n) d
  unfolding floor_z
  least_below_zero =
      min_cases (λ z. z ≡ negsuc (n / d)) (negsuc (n / d)) (negsuc (n / e)) (λ k. refl)
      (λ k. ap negsuc (le_antisymm falls (leb→le (n / d) (n / e) k.le)))

-- negated, the lesser becomes the greater
pub most_of_least : (z : ℤ) {d e : ℕ} → 0 < d → d ≤ e → max_z (neg_ℤ (floor_z z d)) (neg_ℤ (floor_z z e)) ≡ neg_ℤ (min_z (floor_z z d) (floor_z z e))
unfolding floor_z
most_of_least (pos n) p h = below.max_rising (falls n p h) ∙ sym (ap neg_ℤ (least_from_zero n p h))
most_of_least (negsuc n) p h = max_falling (omega (arith, falls n p h)) ∙ sym (ap neg_ℤ (least_below_zero n p h))
