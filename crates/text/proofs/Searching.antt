-- The search for a byte: what holds while it has not been found before index i.
use Rattle.std.proofs.Common.{ℕ, zero, suc, ◌+◌, ◌*◌, ◌<◌, ◌≤◌, ◌==◌, eq-eqb, ne_eqb, le-ltb, lt-ltb, position, unwrap_or, Option, mul-zero, mul-suc, add_comm}
use Rattle.std.proofs.lemmas.List.Sums.{prefix_len-le-length}
use Rattle.std.specs.{List.{position_or_len, list_any}, Simd.{first_chunks}}
use mathlib.Core.{Path.{◌≡◌, refl, sym, ap, ◌∙◌}, Bool.{Bool, true, false, cond, not, ◌||◌}, List.{List, [], ◌∷◌}}
use native.Mathlib.{Numerals.{add-one}, Decide.{dec_lt}, Omega.{arith}}
use lib.{ListN.{length, get_or, take, drop, length-drop, drop_of_length-le}, Seq.{drop-cons, length-take-le, drop-drop}, Dec.{eqb}}
use Rattle.text.proofs.Clash.{clash}
use Rattle.text.specs.{Text.{index_of}, Parts.{Passed}}

pub searching_start : (b : ℕ) (s : List ℕ) → Passed b s 0
searching_start b s = record { within = omega arith; passed = omega arith }

module _ {b : ℕ} {s : List ℕ} {i : ℕ} (a : Passed b s i) where
  pub searching_found : i < length s → get_or s i 0 ≡ b → i ≡ index_of b s
  unfolding index_of
  searching_found h e = sym (a.passed ∙ rw (drop-cons s i 0 h, eq-eqb _ _ e) (omega arith))

  pub searching_step : i < length s → (get_or s i 0 ≡ b → ⊥) → Passed b s (i + 1)
  unfolding index_of
  searching_step h e =
      record { within = omega arith; passed = a.passed ∙ rw (drop-cons s i 0 h, ne_eqb _ _ e, add-one) (omega arith) }

  pub searching_end : length s ≤ i → i ≡ index_of b s
  unfolding index_of
  searching_end h = sym (a.passed ∙ rw (drop_of_length-le s h) (omega arith))

pub index_within : (b : ℕ) (s : List ℕ) → index_of b s ≤ length s
unfolding index_of
index_within b [] = omega arith
index_within b (x ∷ s) = step (eqb x b) (index_within b s)
  where
    step : (t : Bool) → index_of b s ≤ length s → cond t zero (suc (index_of b s)) ≤ suc (length s)
    step true h = omega arith
    step false h = omega arith

-- ---- a part without the byte

-- a text whose first k bytes are not b
index_past : (b k : ℕ) (s : List ℕ) → k ≤ length s → k ≤ index_of b (take k s) → index_of b s ≡ k + index_of b (drop k s)
unfolding index_of
index_past b zero s h l = omega arith
index_past b (suc k) [] h l = absurd (omega arith)
index_past b (suc k) (x ∷ s) h l = step (eqb x b) (λ m. index_past b k s (omega arith) m) l
  where
    step : (t : Bool) → (k ≤ index_of b (take k s) → index_of b s ≡ k + index_of b (drop k s))
        → suc k ≤ cond t zero (suc (index_of b (take k s))) → cond t zero (suc (index_of b s)) ≡ suc k + index_of b (drop k s)
    step true next m = absurd (omega arith)
    step false next m = omega (arith, next (omega arith))

-- a part of k bytes from i on, none of them b
pub part_passed : {b : ℕ} {s : List ℕ} {i : ℕ} (k : ℕ) → Passed b s i → i + k ≤ length s → Passed b (take k (drop i s)) k
    → Passed b s (i + k)
part_passed {b} {s} {i} k a h p =
    record {
      within = h;
      passed =
          a.passed ∙ rw (← drop-drop k i s) (omega (
            arith,
            index_past b k (drop i s) (omega (arith, length-drop i s))
                (omega (arith, p.passed)),
          ));
    }

-- a text whose first b is among its first k bytes
pub index_part : (b k : ℕ) (s : List ℕ) → k ≤ length s → index_of b (take k s) < k → index_of b s ≡ index_of b (take k s)
unfolding index_of
index_part b zero s h l = absurd (omega arith)
index_part b (suc k) [] h l = absurd (omega arith)
index_part b (suc k) (x ∷ s) h l = step (eqb x b) (λ m. index_part b k s (omega arith) m) l
  where
    step : (t : Bool) → (index_of b (take k s) < k → index_of b s ≡ index_of b (take k s)) → cond t zero (suc (index_of b (take k s))) < suc k
        → cond t zero (suc (index_of b s)) ≡ cond t zero (suc (index_of b (take k s)))
    step true next m = refl
    step false next m = ap suc (next (omega arith))

-- ---- the same by the library's searches

pub index_position : (b : ℕ) (s : List ℕ) → index_of b s ≡ position_or_len (λ x. x == b) s
unfolding index_of
index_position b [] = refl
index_position b (x ∷ s) = step (x == b) (index_position b s)
  where
    step : (t : Bool) {n : ℕ} → index_of b s ≡ n → cond t zero (suc (index_of b s)) ≡ cond (not t) (1 + n) 0
    step true e = refl
    step false e = omega (arith, e)

-- the place that is found, or the length where none is
pub place_or_length : {X : Type 0} (p : X → Bool) (xs : List X) {o : Option ℕ} → o ≡ position p xs → unwrap_or o (length xs) ≡ position_or_len p xs
place_or_length p xs {o} e = rw e (go (dec_lt (position_or_len p xs) (length xs)))
  where
    most : position_or_len p xs ≤ length xs
    most = prefix_len-le-length _ xs

    go : Dec (position_or_len p xs < length xs) → unwrap_or (position p xs) (length xs) ≡ position_or_len p xs
    go (yes h) = rw (lt-ltb _ _ h)
    go (no h) =
        let e : length xs ≤ position_or_len p xs = omega arith in
        rw (le-ltb _ _ e) (omega (arith, most))

none_here : (b : ℕ) (t : List ℕ) → list_any (λ x. x == b) t ≡ false → length t ≤ index_of b t
unfolding index_of
none_here b [] e = omega arith
none_here b (x ∷ t) e = go (x == b) (λ p. none_here b t p) e
  where
    go : (h : Bool) → (list_any (λ x. x == b) t ≡ false → length t ≤ index_of b t) → (h || list_any (λ x. x == b) t) ≡ false
        → suc (length t) ≤ cond h zero (suc (index_of b t))
    go true r p = clash cc
    go false r p = omega (arith, r p)

-- blocks of k bytes, of which the first ones are without the byte
pub blocks_passed : (b k n : ℕ) (s : List ℕ) → n * k ≤ length s
    → Passed b s (k * position_or_len (list_any (λ x. x == b)) (first_chunks k n s))
blocks_passed b k zero s h = rw (mul-zero k) (searching_start b s)
blocks_passed b k (suc n) s h = go (list_any (λ x. x == b) (take k s)) refl _ (blocks_passed b k n (drop k s) (omega (arith, length-drop k s)))
  where
    go : (t : Bool) → list_any (λ x. x == b) (take k s) ≡ t → (m : ℕ) → Passed b (drop k s) (k * m) → Passed b s (k * cond (not t) (1 + m) 0)
    go true e m a = rw (mul-zero k) (searching_start b s)
    go false e m a =
        let size : length (take k s) ≡ k = length-take-le k s (omega arith) in
        let past = index_past b k s (omega arith) (omega (arith, none_here b (take k s) e)) in
        let next : k * (1 + m) ≡ k + k * m = ap (λ n. k * n) (add_comm 1 m ∙ add-one m) ∙ mul-suc k m ∙ omega arith in
        rw next
        (record {
          within = omega (arith, a.within, length-drop k s);
          passed = past ∙ ap (λ n. k + n) a.passed ∙ rw (drop-drop (k * m) k s) (omega arith);
        })
