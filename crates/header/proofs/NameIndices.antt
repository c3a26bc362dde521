-- Names and their indices in a form: a text whose index is within the form is that name, byte for byte.
use Prim.Native.Nat.{ℕ, zero, suc, ◌+◌, ◌<◌, ◌≤◌}
use mathlib.Core.{Path.{◌≡◌, refl, ◌∙◌}, Bool.{Bool, true, false, cond, ◌&&◌}, List.{List, [], ◌∷◌}}
use native.Mathlib.{Nat.{zero-add}, Omega.{arith}}
use lib.{ListN.{length, get_or}, Dec.{T, eqb, eqb→eq}}
use mir.Facts.{and_yes}
use borrow.Author.Tests.{eq-eqb, eqb-true, lt-ltb}
use Rattle.text.{specs.Text.{same}, proofs.{Clash.{clash}, Comparing.{same_is}}}
use Rattle.std.specs.Prelude.{Option, Some, position}
use Rattle.std.specs.{Cmp.Lexicographic.{pointwise}, List.{range_with_len}}
use Rattle.std.proofs.lemmas.List.{FromFn.{length-range_with_len, get_or-range_with_len}, Sums.{position_or_len_is}}
use Rattle.case.specs.{Columns.{Form, columns, former_columns, name_index}, declared.Form.{Form as CodeForm}}
use Rattle.case.specs.{declared.Form.TheVariants.{Present, Former}, Parts.{form_of}}
use Rattle.header.specs.Parts.{name_at, found_name}

same_equal : (s t : List ℕ) → same s t ≡ true → s ≡ t
unfolding same
same_equal [] [] e = refl
same_equal [] (y ∷ t) e = clash cc
same_equal (x ∷ s) [] e = clash cc
same_equal (x ∷ s) (y ∷ t) e = go (eqb x y) refl (λ h. same_equal s t h) e
  where
    go : (b : Bool) → eqb x y ≡ b → (same s t ≡ true → s ≡ t) → (b && same s t) ≡ true → x ∷ s ≡ y ∷ t
    go true q r h = rw (eqb-true x y q, r h)
    go false q r h = clash cc

same_self : (s : List ℕ) → same s s ≡ true
unfolding same
same_self [] = refl
same_self (x ∷ s) = rw (eq-eqb x x refl, same_self s)

-- a text whose index is within the form is the name with that index
pub index_name : (form : Form) (t : List ℕ) → name_index form t < length form → t ≡ name_at form (name_index form t)
unfolding name_index name_at
index_name [] t h = absurd (omega arith)
index_name (c ∷ form) t h = go (same t c.name) refl (λ l. index_name form t l) h
  where
    go : (b : Bool) → same t c.name ≡ b → (name_index form t < length form → t ≡ name_at form (name_index form t))
        → cond b zero (suc (name_index form t)) < suc (length form) → t ≡ name_at (c ∷ form) (cond b zero (suc (name_index form t)))
    go true e r l = same_equal t c.name e
    go false e r l = r (omega arith)

-- and a name of the form has its index within it
pub name_known : (form : Form) (k : ℕ) → k < length form → name_index form (name_at form k) < length form
unfolding name_index name_at
name_known [] k h = absurd (omega arith)
name_known (c ∷ form) zero h = rw (same_self c.name) (omega arith)
name_known (c ∷ form) (suc k) h = go (same (name_at form k) c.name) (name_known form k (omega arith))
  where
    go : (b : Bool) → name_index form (name_at form k) < length form → cond b zero (suc (name_index form (name_at form k))) < suc (length form)
    go true l = omega arith
    go false l = omega arith

-- no name before that index is the text
name_before : (form : Form) (t : List ℕ) (k : ℕ) → k < name_index form t → same t (name_at form k) ≡ false
unfolding name_index name_at
name_before [] t k h = absurd (omega arith)
name_before (c ∷ form) t k h = go (same t c.name) refl k (name_before form t) h
  where
    go : (b : Bool) → same t c.name ≡ b → (k : ℕ) → ((j : ℕ) → j < name_index form t → same t (name_at form j) ≡ false)
        → k < cond b zero (suc (name_index form t)) → same t (name_at (c ∷ form) k) ≡ false
    go true e k r l = absurd (omega arith)
    go false e zero r l = e
    go false e (suc k) r l = r k (omega arith)

index_most : (form : Form) (t : List ℕ) → name_index form t ≤ length form
unfolding name_index
index_most [] t = omega arith
index_most (c ∷ form) t = go (same t c.name) (index_most form t)
  where
    go : (b : Bool) → name_index form t ≤ length form → cond b zero (suc (name_index form t)) ≤ suc (length form)
    go true l = omega arith
    go false l = omega arith

-- the first index whose name is the text
pub name_searched : (form : Form) (t : List ℕ) {n : ℕ} {o : Option ℕ} → n ≡ length form
    → o ≡ position (λ k. pointwise eqb t (name_at form k)) (range_with_len 0 n) → o ≡ found_name form t
unfolding found_name
name_searched form t {n} e p =
    p ∙ rw (position_or_len_is (λ k. pointwise eqb t (name_at form k)) (range_with_len 0 n) (name_index form t) 0 within before here, long, e)
  where
    long : length (range_with_len 0 n) ≡ n
    long = length-range_with_len 0 n

    within : name_index form t ≤ length (range_with_len 0 n)
    within = omega (arith, long, e, index_most form t)

    before : (k : ℕ) → k < name_index form t → pointwise eqb t (name_at form (get_or (range_with_len 0 n) k 0)) ≡ false
    before k h =
        rw (get_or-range_with_len 0 n k 0 (omega (arith, e, index_most form t)), zero-add) (same_is t (name_at form k) ∙ name_before form t k h)

    here : name_index form t < length (range_with_len 0 n) → pointwise eqb t (name_at form (get_or (range_with_len 0 n) (name_index form t) 0)) ≡ true
    here h =
        let l : name_index form t < length form = omega (arith, long, e) in
        rw (get_or-range_with_len 0 n (name_index form t) 0 (omega (arith, e)), zero-add, ← index_name form t l)
        (same_is t t ∙ same_self t)

-- from place k on each name of a form has its place as index
own_from : Form → Form → ℕ → Bool
own_from form [] k = true
own_from form (c ∷ cs) k = eqb (name_index form c.name) k && own_from form cs (suc k)

own_at : (form cs : Form) (k i : ℕ) → T (own_from form cs k) → i < length cs → name_index form (name_at cs i) ≡ k + i
unfolding own_from name_at
own_at form [] k i t h = absurd (omega arith)
own_at form (c ∷ cs) k zero t h =
    eqb→eq _ k (and_yes (eqb (name_index form c.name) k) (own_from form cs (suc k)) t).0 ∙ omega arith
own_at form (c ∷ cs) k (suc i) t h =
    own_at form cs (suc k) i (and_yes (eqb (name_index form c.name) k) (own_from form cs (suc k)) t).1 (omega arith) ∙ omega arith

-- no name stands twice in a form: one computed test for each
own_index : (form : CodeForm) (k : ℕ) → k < length (form_of form) → name_index (form_of form) (name_at (form_of form) k) ≡ k
unfolding form_of columns former_columns name_index same own_from
own_index Present k h = own_at columns columns 0 k tt h ∙ omega arith
own_index Former k h = own_at former_columns former_columns 0 k tt h ∙ omega arith

-- so a text that is the name with an index is found there, whatever was tried before
pub name_found : (form : CodeForm) (t : List ℕ) {k : ℕ} → k < length (form_of form) → same t (name_at (form_of form) k) ≡ true
    → Some k ≡ found_name (form_of form) t
unfolding found_name
name_found form t {k} h e = rw (same_equal t _ e, own_index form k h, lt-ltb k (length (form_of form)) h)
