-- The pairs of a list of numbers: how many, and which numbers each has.
use Prim.Native.Nat.{ℕ, zero, suc, ◌+◌, ◌*◌, ◌/◌, ◌<◌}
use mathlib.Core.{Path.{◌≡◌, refl}, List.{List, [], ◌∷◌, map}}
use native.Mathlib.Omega.{arith}
use lib.ListN.{length, get_or, drop}
use Rattle.std.specs.Simd.{first_chunks}
use Rattle.readings.specs.Reading.{Reading, pairs_of}

pub pair_count : (s : List ℕ) → length (pairs_of s) ≡ length s / 2
unfolding pairs_of
pair_count [] = refl
pair_count (a ∷ []) = refl
pair_count (a ∷ R ∷ s) = omega (arith, pair_count s)

-- pair k has the numbers 2k and 2k + 1
abbrev pub pair_at : List ℕ → ℕ → Reading
pair_at s k = record { distance = get_or s (2 * k) 0; resistance = get_or s (2 * k + 1) 0 }

pub pairs_at : (s : List ℕ) (k : ℕ) → k < length s / 2 → drop k (pairs_of s) ≡ pair_at s k ∷ drop (suc k) (pairs_of s)
unfolding pairs_of
pairs_at [] k h = absurd (omega arith)
pairs_at (a ∷ []) k h = absurd (omega arith)
pairs_at (a ∷ R ∷ s) zero h = refl
pairs_at (a ∷ R ∷ s) (suc k) h =
    let e : 2 * suc k ≡ suc (suc (2 * k)) = omega arith in
    let f : 2 * suc k + 1 ≡ suc (suc (2 * k + 1)) = omega arith in
    rw (f, e) (pairs_at s k (omega arith))

-- the two numbers of a pair
abbrev pub numbers : Reading → List ℕ
numbers p = p.distance ∷ p.resistance ∷ []

-- the list two by two
pub chunks_are : (s : List ℕ) (n : ℕ) → n ≡ length s / 2 → first_chunks 2 n s ≡ map numbers (pairs_of s)
unfolding pairs_of
chunks_are [] n e = rw e
chunks_are (a ∷ []) n e = rw e
chunks_are (a ∷ R ∷ s) n e =
    let m : n ≡ suc (length s / 2) = omega arith in
    rw (m, chunks_are s (length s / 2) refl)

-- pair k of them
pub chunk_at : (s : List ℕ) (k : ℕ) → k < length s / 2 → get_or (map numbers (pairs_of s)) k [] ≡ numbers (pair_at s k)
unfolding pairs_of
chunk_at [] k h = absurd (omega arith)
chunk_at (a ∷ []) k h = absurd (omega arith)
chunk_at (a ∷ R ∷ s) zero h = refl
chunk_at (a ∷ R ∷ s) (suc k) h =
    let e : 2 * suc k ≡ suc (suc (2 * k)) = omega arith in
    let f : 2 * suc k + 1 ≡ suc (suc (2 * k + 1)) = omega arith in
    rw (f, e) (chunk_at s k (omega arith))
