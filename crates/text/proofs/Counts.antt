-- The count of a byte, and of lines by it: what holds while n of the bytes before index i are b.
use Rattle.std.proofs.Common.{ℕ, zero, suc, map, zero-mul, zero-add, ◌*◌, ◌+◌, ◌<◌, ◌≤◌, eq-eqb, ne_eqb}
use mathlib.Core.{Path.{◌≡◌, refl, sym, ap, ◌∙◌}, Bool.{Bool, true, false, cond}, List.{List, [], ◌∷◌, ◌++◌}}
use native.Mathlib.{Numerals.{add-one}, Omega.{arith}}
use lib.{ListN.{length, get_or, take, drop, length-drop, drop_of_length-le}, Seq.{drop-cons, drop-drop}, Dec.{eqb}}
use Rattle.std.proofs.lemmas.List.Sums.{sum_by-cons}
use Rattle.std.specs.{List.{sum}, Simd.{first_chunks}}
use Rattle.text.specs.{Text.{on_first, lines_of}, Parts.{count_of}}

pub record Counting (b : ℕ) (s : List ℕ) (n i : ℕ) : Type 0 where
  pub within : i ≤ length s
  pub few : n ≤ i
  pub passed : count_of b s ≡ n + count_of b (drop i s)

pub counting_start : (b : ℕ) (s : List ℕ) → Counting b s 0 0
counting_start b s = record { within = omega arith; few = omega arith; passed = omega arith }

module _ {b : ℕ} {s : List ℕ} {n i : ℕ} (a : Counting b s n i) where
  pub counting_same : i < length s → get_or s i 0 ≡ b → Counting b s (n + 1) (i + 1)
  unfolding count_of
  counting_same h e =
      record {
        within = omega arith;
        few = omega (arith, a.few);
        passed = a.passed ∙ rw (drop-cons s i 0 h, eq-eqb _ _ e, add-one i) (omega arith);
      }

  pub counting_other : i < length s → (get_or s i 0 ≡ b → ⊥) → Counting b s n (i + 1)
  unfolding count_of
  counting_other h e =
      record { within = omega arith; few = omega (arith, a.few); passed = a.passed ∙ rw (drop-cons s i 0 h, ne_eqb _ _ e, add-one i) }

  pub counting_end : length s ≤ i → n ≡ count_of b s
  unfolding count_of
  counting_end h = sym (a.passed ∙ rw (drop_of_length-le s h) (omega arith))

pub count_within : (b : ℕ) (s : List ℕ) → count_of b s ≤ length s
unfolding count_of
count_within b [] = omega arith
count_within b (x ∷ s) = step (eqb x b) (count_within b s)
  where
    step : (t : Bool) → count_of b s ≤ length s → cond t (suc (count_of b s)) (count_of b s) ≤ suc (length s)
    step true h = omega arith
    step false h = omega arith

-- a text by its first k bytes and the others
count_split : (b k : ℕ) (s : List ℕ) → count_of b s ≡ count_of b (take k s) + count_of b (drop k s)
unfolding count_of
count_split b zero s = omega arith
count_split b (suc k) [] = omega arith
count_split b (suc k) (x ∷ s) = step (eqb x b) (count_split b k s)
  where
    step : (t : Bool) → count_of b s ≡ count_of b (take k s) + count_of b (drop k s)
        → cond t (suc (count_of b s)) (count_of b s) ≡ cond t (suc (count_of b (take k s))) (count_of b (take k s)) + count_of b (drop k s)
    step true h = omega arith
    step false h = h

-- the count by blocks of k bytes, and in the rest
pub blocks_count : (b k n : ℕ) (s : List ℕ) → n * k ≤ length s
    → sum (map (count_of b) (first_chunks k n s)) + count_of b (drop (n * k) s) ≡ count_of b s
blocks_count b k zero s h = rw (zero-mul k) (zero-add _)
blocks_count b k (suc n) s h =
    let size : n * k ≤ length (drop k s) = omega (arith, length-drop k s) in
    let rest = blocks_count b k n (drop k s) size in
    let more : sum (map (count_of b) (first_chunks k (suc n) s)) ≡ count_of b (take k s) + sum (map (count_of b) (first_chunks k n (drop k s))) =
    sum_by-cons (λ x. x) _ (map (count_of b) (first_chunks k n (drop k s))) in
    let later : drop (n * k) (drop k s) ≡ drop (suc n * k) s = drop-drop (n * k) k s ∙ ap (λ m. drop m s) (omega arith) in
    omega (arith, more, rest, ap (count_of b) later, count_split b k s)

-- at most as many as there are bytes
pub blocks_most : (b k n : ℕ) (s : List ℕ) → n * k ≤ length s → sum (map (count_of b) (first_chunks k n s)) ≤ length s
blocks_most b k n s h = omega (arith, blocks_count b k n s h, count_within b s)

-- a text that is not empty has a line for each byte 10 before its last byte, and one more
pub lines_count : (t : List ℕ) (x : ℕ) → count_of 10 t + 1 ≡ length (lines_of (t ++ x ∷ []))
unfolding lines_of count_of on_first
lines_count [] x = one (eqb x 10)
  where
    one : (h : Bool) → 1 ≡ length (cond h ([] ∷ []) ((x ∷ []) ∷ []))
    one true = refl
    one false = refl
lines_count (b ∷ t) x = more (eqb b 10) (lines_of (t ++ x ∷ [])) _ (lines_count t x)
  where
    more : (h : Bool) (ls : List (List ℕ)) (k : ℕ) → k + 1 ≡ length ls → cond h (suc k) k + 1 ≡ length (cond h ([] ∷ ls) (on_first b ls))
    more true ls k e = omega arith
    more false [] k e = absurd (omega arith)
    more false (l ∷ ls) k e = e

pub lines_of_none : (s : List ℕ) → length s ≡ 0 → 0 ≡ length (lines_of s)
unfolding lines_of
lines_of_none [] h = refl
lines_of_none (b ∷ s) h = absurd (omega arith)
