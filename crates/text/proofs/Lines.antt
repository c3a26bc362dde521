-- The lines of a text: the first runs to the first byte 10.
use Rattle.std.proofs.Common.{ℕ, zero, suc, ◌<◌, ◌≤◌, not-suc-le-zero}
use mathlib.Core.{Path.{◌≡◌, refl}, Bool.{Bool, true, false, cond}, List.{List, [], ◌∷◌}}
use lib.{ListN.{length, take, drop}, Dec.{eqb}}
use Rattle.text.specs.Text.{index_of, on_first, lines_of}

last_step : (t : Bool) (b : ℕ) → cond t ([] ∷ lines_of []) (on_first b (lines_of []))
    ≡ take (cond t zero 1) (b ∷ []) ∷ lines_of (drop (suc (cond t zero 1)) (b ∷ []))
unfolding on_first lines_of
last_step true b = refl
last_step false b = refl

next_step : (t : Bool) (b : ℕ) (s : List ℕ) → lines_of s ≡ take (index_of 10 s) s ∷ lines_of (drop (suc (index_of 10 s)) s)
    → cond t ([] ∷ lines_of s) (on_first b (lines_of s))
    ≡ take (cond t zero (suc (index_of 10 s))) (b ∷ s) ∷ lines_of (drop (suc (cond t zero (suc (index_of 10 s)))) (b ∷ s))
unfolding on_first
next_step true b s ih = refl
next_step false b s ih = rw ih

next_of : (b : ℕ) (s : List ℕ) → lines_of (b ∷ s) ≡ take (index_of 10 (b ∷ s)) (b ∷ s) ∷ lines_of (drop (suc (index_of 10 (b ∷ s))) (b ∷ s))
unfolding index_of lines_of
next_of b [] = last_step (eqb b 10) b
next_of b (x ∷ s) = next_step (eqb b 10) b (x ∷ s) (next_of x s)

-- a text that is not empty has a first line, and the lines after it
pub lines_next : (l : List ℕ) → 0 < length l → lines_of l ≡ take (index_of 10 l) l ∷ lines_of (drop (suc (index_of 10 l)) l)
lines_next [] h = absurd (not-suc-le-zero h)
lines_next (b ∷ s) h = next_of b s

pub lines_none : (l : List ℕ) → length l ≤ 0 → lines_of l ≡ []
unfolding lines_of
lines_none [] h = refl
lines_none (b ∷ s) h = absurd (not-suc-le-zero h)
