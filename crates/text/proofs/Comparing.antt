-- The comparison of two texts: those of different lengths differ, and the library's comparison says the same.
use Rattle.std.proofs.Common.{ℕ}
use mathlib.Core.{Path.{◌≡◌, refl, sym}, Bool.{false, and-false}, List.{List, [], ◌∷◌}}
use native.Mathlib.{Omega.{arith}}
use lib.{ListN.{length}, Dec.{eqb}}
use Rattle.std.specs.Cmp.Lexicographic.{pointwise}
use Rattle.text.specs.Text.{same}

pub same_lengths : (s t : List ℕ) → (length s ≡ length t → ⊥) → false ≡ same s t
unfolding same
same_lengths [] [] h = absurd (h refl)
same_lengths [] (y ∷ t) h = refl
same_lengths (x ∷ s) [] h = refl
same_lengths (x ∷ s) (y ∷ t) h = sym (rw (← same_lengths s t (λ e. h (omega arith))) (and-false (eqb x y)))

-- the library's comparison of slices
pub same_is : (s t : List ℕ) → pointwise eqb s t ≡ same s t
unfolding same
same_is [] [] = refl
same_is [] (y ∷ t) = refl
same_is (x ∷ s) [] = refl
same_is (x ∷ s) (y ∷ t) = rw (same_is s t)
