-- The split is enough and no smaller number is; a number with both properties is the split.
use Prim.Native.Nat.{ℕ, zero, suc, ◌*◌, ◌≤◌, ◌<◌}
use mathlib.Core.{Path.{◌≡◌, refl}, Bool.{Bool, true, false, cond, not}}
use native.Mathlib.{Omega.{arith}, Decide.{dec_lt}, Nat.{mul-le-mul}}
use lib.Dec.{T, leb→le, le→leb, nleb→lt}
use Rattle.long_root.specs.Split.{smallest, million, enough, split_of}

smallest_passes : (test : ℕ → Bool) (most : ℕ) → T (test most) → T (test (smallest test most))
unfolding smallest
smallest_passes test zero h = h
smallest_passes test (suc most) h = go (test zero) refl (smallest_passes (λ n. test (suc n)) most h)
  where
    go : (b : Bool) → test zero ≡ b → T (test (suc (smallest (λ n. test (suc n)) most)))
        → T (test (cond b zero (suc (smallest (λ n. test (suc n)) most))))
    go true e k = rw e tt
    go false e k = k

smallest_least : (test : ℕ → Bool) (most m : ℕ) → m < smallest test most → T (not (test m))
unfolding smallest
smallest_least test zero m l = absurd (omega arith)
smallest_least test (suc most) m l = go (test zero) refl m l (smallest_least (λ n. test (suc n)) most)
  where
    go : (b : Bool) → test zero ≡ b → (m : ℕ) → m < cond b zero (suc (smallest (λ n. test (suc n)) most))
        → ((k : ℕ) → k < smallest (λ n. test (suc n)) most → T (not (test (suc k)))) → T (not (test m))
    go true e m l later = absurd (omega arith)
    go false e zero l later = rw e tt
    go false e (suc m) l later = later m (omega arith)

module _ (grid injected : ℕ) (some : 0 < injected) where
  self_enough : (n : ℕ) → n ≤ n * n * injected
  self_enough zero = omega arith
  self_enough (suc n) = let h : suc n * 1 ≤ suc n * suc n = mul-le-mul (omega arith) (omega arith) in omega (arith, mul-le-mul h some)

  pub split_enough : million * grid ≤ split_of grid injected * split_of grid injected * injected
  unfolding split_of enough
  split_enough = leb→le _ _ (smallest_passes (enough grid injected) (million * grid) (le→leb _ _ (self_enough (million * grid))))

  pub split_least : (m : ℕ) → m < split_of grid injected → m * m * injected < million * grid
  unfolding split_of enough
  split_least m l = nleb→lt _ _ (smallest_least (enough grid injected) (million * grid) m l)

  pub split_is : (r : ℕ) → million * grid ≤ r * r * injected → ((m : ℕ) → m < r → m * m * injected < million * grid)
      → r ≡ split_of grid injected
  split_is r e l = go (dec_lt r (split_of grid injected)) (dec_lt (split_of grid injected) r)
    where
      go : Dec (r < split_of grid injected) → Dec (split_of grid injected < r) → r ≡ split_of grid injected
      go (yes h) d = absurd (omega (arith, e, split_least r h))
      go (no h) (yes k) = absurd (omega (arith, l (split_of grid injected) k, split_enough))
      go (no h) (no k) = omega arith
