-- Names that have no column yet.
use Prim.Native.Nat.{ℕ, zero, suc, ◌≤◌, ◌<◌}
use mathlib.Core.{Path.{◌≡◌, refl, sym, ap}, List.{List, [], ◌∷◌}}
use native.Mathlib.{Nat.{le_of_suc-le-suc, not-suc-le-zero}, Omega.{arith}}
use lib.ListN.{length, get_or, set, replicate}

-- how many names have no column
unfoldable pub free : List ℕ → ℕ
free [] = 0
free (zero ∷ at) = suc (free at)
free (suc c ∷ at) = free at

-- at first all
pub free_zeros : (n : ℕ) → free (replicate n 0) ≡ n
unfolding free
free_zeros zero = refl
free_zeros (suc n) = ap suc (free_zeros n)

free_cons : (c : ℕ) (at : List ℕ) → 1 ≤ c → free (c ∷ at) ≡ free at
unfolding free
free_cons zero at h = absurd (not-suc-le-zero h)
free_cons (suc c) at h = refl

-- a name gets a column
pub free_set : (at : List ℕ) (k c : ℕ) → k < length at → get_or at k 0 ≡ 0 → 1 ≤ c → free at ≡ suc (free (set at k c))
unfolding free
free_set [] k c h e p = absurd (not-suc-le-zero h)
free_set (zero ∷ at) zero c h e p = ap suc (sym (free_cons c at p))
free_set (suc n ∷ at) zero c h e p = absurd (omega (arith, e))
free_set (zero ∷ at) (suc k) c h e p = ap suc (free_set at k c (le_of_suc-le-suc h) e p)
free_set (suc n ∷ at) (suc k) c h e p = free_set at k c (le_of_suc-le-suc h) e p

-- none is left
pub free_none : (at : List ℕ) (k : ℕ) → free at ≡ 0 → k < length at → 1 ≤ get_or at k 0
unfolding free
free_none [] k e h = absurd (not-suc-le-zero h)
free_none (zero ∷ at) k e h = absurd (omega (arith, e))
free_none (suc n ∷ at) zero e h = omega arith
free_none (suc n ∷ at) (suc k) e h = free_none at k e (le_of_suc-le-suc h)

-- a column set to c keeps all columns at most c
pub set_under : (at : List ℕ) (j k c : ℕ) → ((i : ℕ) → get_or at i 0 < suc c) → get_or (set at j c) k 0 < suc c
set_under [] j k c h = omega arith
set_under (x ∷ at) zero zero c h = omega arith
set_under (x ∷ at) zero (suc k) c h = h (suc k)
set_under (x ∷ at) (suc j) zero c h = h 0
set_under (x ∷ at) (suc j) (suc k) c h = set_under at j k c (λ i. h (suc i))
