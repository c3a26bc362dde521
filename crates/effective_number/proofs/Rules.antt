-- Rules that a test computes, at every count from 2 to 25, and at every two counts.
use Prim.Native.Nat.{ℕ, zero, suc, ◌+◌, ◌-◌, ◌<◌}
use mathlib.Core.{Path.{◌≡◌}, Bool.{Bool, true, ◌&&◌}, List.{List}}
use native.Mathlib.{Omega.{arith}, Decide.{dec_lt}}
use lib.Dec.{T}
use mir.Facts.{and_yes}
use Rattle.interval.proofs.Rules.{Rule, kept, Kept, lits}
use Rattle.case.specs.Bounds.{Between}
use Rattle.effective_number.specs.Counts.{Counts}

-- a test passes at every number below k
abbrev pub passes : (ℕ → Bool) → ℕ → Bool
passes f zero = true
passes f (suc k) = f k && passes f k

passes_at_lem : (f : ℕ → Bool) (k i : ℕ) → T (passes f k) → i < k → T (f i)
passes_at_lem f zero i t h = absurd (omega arith)
passes_at_lem f (suc k) i t h = go (dec_lt i k) (passes_at_lem f k i (and_yes (f k) (passes f k) t).1)
  where
    go : Dec (i < k) → (i < k → T (f i)) → T (f i)
    go (yes l) earlier = earlier l
    go (no l) earlier = let e : i ≡ k = omega arith in rw e (and_yes (f k) (passes f k) t).0

-- a test passes at every count
abbrev pub at_every : (ℕ → Bool) → Bool
at_every f = passes (λ i. f (2 + i)) 24

every : (f : ℕ → Bool) {n : ℕ} → T (at_every f) → Between 2 n 25 → T (f n)
every f {n} t h =
    let e : 2 + (n - 2) ≡ n = omega (arith, h.low) in
    rw e at (passes_at_lem (λ i. f (2 + i)) 24 (n - 2) t (omega (arith, h.high)))

pub at_count : (rules : ℕ → List Rule) {n : ℕ} → T (at_every (λ i. kept (rules i))) → Between 2 n 25 → Kept (rules n)
at_count rules {n} t h = lits (every (λ i. kept (rules i)) t h)

pub at_counts : (rules : ℕ → ℕ → List Rule) {a b : ℕ} → T (at_every (λ i. at_every (λ j. kept (rules i j)))) → Counts a b → Kept (rules a b)
at_counts rules {a} {b} t h = at_count (rules a) (every (λ i. at_every (λ j. kept (rules i j))) t h.across) h.along
