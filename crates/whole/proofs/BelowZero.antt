-- The lesser and the greater of two numbers below 0.
use Prim.Native.Nat.{ℕ, ◌≤◌}
use mathlib.Core.Path.{◌≡◌, refl, sym, ap}
use native.Mathlib.Omega.{arith}
use lib.{IntN.{pos, neg_ℤ}, Signed.{◌≤ℤ◌}}
use Rattle.whole.specs.Whole.{min_z, max_z}
use Rattle.whole.proofs.{Signed.{neg_plus, neg_minus, le_halves}, Choice.{min_cases, max_cases}}

module _ {m n : ℕ} (h : m ≤ n) where
  same : neg_ℤ (pos m) ≤ℤ neg_ℤ (pos n) → neg_ℤ (pos m) ≡ neg_ℤ (pos n)
  same k =
      let e : m ≡ n = omega (arith, le_halves k, neg_plus (pos m), neg_minus (pos m), neg_plus (pos n), neg_minus (pos n)) in
      ap (λ t. neg_ℤ (pos t)) e

  pub min_rising : min_z (neg_ℤ (pos n)) (neg_ℤ (pos m)) ≡ neg_ℤ (pos n)
  min_rising = min_cases (λ z. z ≡ neg_ℤ (pos n)) (neg_ℤ (pos n)) (neg_ℤ (pos m)) (λ k. refl) same

  pub max_rising : max_z (neg_ℤ (pos n)) (neg_ℤ (pos m)) ≡ neg_ℤ (pos m)
  max_rising = max_cases (λ z. z ≡ neg_ℤ (pos m)) (neg_ℤ (pos n)) (neg_ℤ (pos m)) (λ k. refl) (λ k. sym (same k))

  pub min_falling : min_z (neg_ℤ (pos m)) (neg_ℤ (pos n)) ≡ neg_ℤ (pos n)
  min_falling = min_cases (λ z. z ≡ neg_ℤ (pos n)) (neg_ℤ (pos m)) (neg_ℤ (pos n)) same (λ k. refl)

  pub max_falling : max_z (neg_ℤ (pos m)) (neg_ℤ (pos n)) ≡ neg_ℤ (pos m)
  max_falling = max_cases (λ z. z ≡ neg_ℤ (pos m)) (neg_ℤ (pos m)) (neg_ℤ (pos n)) (λ k. sym (same k)) (λ k. refl)
