-- The fields of a line: the first runs to the first comma.
use Rattle.std.proofs.Common.{ℕ, zero, suc, ◌<◌, ◌≤◌, le_of_suc-le-suc, not-suc-le-zero}
use mathlib.Core.{Path.{◌≡◌, refl}, Bool.{Bool, true, false, cond}, List.{List, [], ◌∷◌}}
use lib.{ListN.{length, take, drop}, Dec.{eqb}}
use Rattle.text.specs.Text.{index_of, on_first, fields_of}

more_step : (t : Bool) (b : ℕ) (s : List ℕ)
    → (index_of 44 s < length s → fields_of s ≡ take (index_of 44 s) s ∷ fields_of (drop (suc (index_of 44 s)) s))
    → cond t zero (suc (index_of 44 s)) < suc (length s)
    → cond t ([] ∷ fields_of s) (on_first b (fields_of s))
    ≡ take (cond t zero (suc (index_of 44 s))) (b ∷ s) ∷ fields_of (drop (suc (cond t zero (suc (index_of 44 s)))) (b ∷ s))
unfolding on_first
more_step true b s ih h = refl
more_step false b s ih h = rw (ih (le_of_suc-le-suc h))

-- there is a comma: a field, and the fields after it
pub fields_more : (l : List ℕ) → index_of 44 l < length l → fields_of l ≡ take (index_of 44 l) l ∷ fields_of (drop (suc (index_of 44 l)) l)
unfolding index_of fields_of
fields_more [] h = absurd (not-suc-le-zero h)
fields_more (b ∷ s) h = more_step (eqb b 44) b s (fields_more s) h

one_step : (t : Bool) (b : ℕ) (s : List ℕ) → (length s ≤ index_of 44 s → fields_of s ≡ s ∷ [])
    → suc (length s) ≤ cond t zero (suc (index_of 44 s)) → cond t ([] ∷ fields_of s) (on_first b (fields_of s)) ≡ (b ∷ s) ∷ []
unfolding on_first
one_step true b s ih h = absurd (not-suc-le-zero h)
one_step false b s ih h = rw (ih (le_of_suc-le-suc h))

-- there is none: the line is one field
pub fields_one : (l : List ℕ) → length l ≤ index_of 44 l → fields_of l ≡ l ∷ []
unfolding index_of fields_of
fields_one [] h = refl
fields_one (b ∷ s) h = one_step (eqb b 44) b s (fields_one s) h
