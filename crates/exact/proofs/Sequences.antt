-- Sequences of fractions that never fall, or never rise, from step to step.
use Prim.Native.Nat.{ℕ, zero, suc, ◌+◌, ◌≤◌}
use mathlib.Core.Path.{◌≡◌}
use native.Mathlib.{Omega.{arith}, Decide.{dec_le}, Nat.{le_dest, add-zero, add-suc}}
use Rattle.exact.specs.Fraction.{Fraction, ◌≤f◌}
use Rattle.exact.proofs.Order.{refl≤, trans≤}

-- any relation of neighbours that is kept from one to the next
kept : (R : Fraction → Fraction → Type 0) → ((a : Fraction) → R a a) → ((a b c : Fraction) → R a b → R b c → R a c)
    → (f : ℕ → Fraction) → ((k : ℕ) → R (f k) (f (suc k))) → {j k : ℕ} → j ≤ k → R (f j) (f k)
kept R r t f h {j} {k} l = go (le_dest l)
  where
    on : (d : ℕ) → R (f j) (f (j + d))
    on zero = rw add-zero (r (f j))
    on (suc d) = rw add-suc (t _ _ _ (on d) (h (j + d)))

    go : (d : ℕ) × (j + d ≡ k) → R (f j) (f k)
    go e = rw e.1 at (on e.0)

pub rising : (f : ℕ → Fraction) → ((k : ℕ) → f k ≤f f (suc k)) → {j k : ℕ} → j ≤ k → f j ≤f f k
rising f h = kept (λ a b. a ≤f b) refl≤ (λ a b c l m. trans≤ l m) f h

pub falling : (f : ℕ → Fraction) → ((k : ℕ) → f (suc k) ≤f f k) → {j k : ℕ} → j ≤ k → f k ≤f f j
falling f h = kept (λ a b. b ≤f a) refl≤ (λ a b c l m. trans≤ m l) f h

-- one that rises below one that falls
pub crossing : (f g : ℕ → Fraction) → ((k : ℕ) → f k ≤f f (suc k)) → ((k : ℕ) → g (suc k) ≤f g k) → ((k : ℕ) → f k ≤f g k)
    → (j k : ℕ) → f j ≤f g k
crossing f g rises falls below j k = go (dec_le j k)
  where
    go : Dec (j ≤ k) → f j ≤f g k
    go (yes l) = trans≤ (rising f rises l) (below k)
    go (no l) = trans≤ (below j) (falling g falls (omega arith))
