-- A pass over the m lines of k numbers of a table: those before line i are passed, and `rest` holds the numbers of the others.
use Prim.Native.Nat.{ℕ, zero, suc, ◌+◌, ◌*◌, ◌-◌, ◌≤◌, ◌<◌}
use mathlib.Core.{Path.{◌≡◌, refl, sym, ap, ◌∙◌}, List.{List, [], ◌∷◌, ◌++◌, map}}
use native.Mathlib.{Nat.{sub-zero}, Omega.{arith}}
use lib.{ListN.{length, take, drop, length-append, length-drop}, Seq.{take-take, length-take-le, take-append_seam, drop-append_seam}}
use Rattle.std.proofs.lemmas.List.{drop-take}
use Rattle.tables.specs.Parts.{parts_of}
use Rattle.writing.proofs.LinesWriting.{made_next, made_none, after_line}

-- the lines are in the first m * k numbers
parts_within : {A : Type 0} (k m : ℕ) (t : List A) → m * k ≤ length t → parts_of k m (take (m * k) t) ≡ parts_of k m t
unfolding parts_of
parts_within k zero t h = refl
parts_within k (suc m) t h =
    let first : take k (take (suc m * k) t) ≡ take k t = take-take k (suc m * k) t (omega arith) in
    let all : suc m * k ≡ k + m * k = omega arith in
    let others : drop k (take (suc m * k) t) ≡ take (m * k) (drop k t) = rw all (drop-take k (m * k) t) in
    rw (first, others, parts_within k m (drop k t) (omega (arith, length-drop k t)))

pub record TableRest {A : Type 0} (k m : ℕ) (t rest : List A) (i : ℕ) : Type 0 where
  pub lines : drop i (parts_of k m t) ≡ parts_of k (m - i) rest
  pub exact : length rest ≡ (m - i) * k

pub rest_start : {A : Type 0} (k m : ℕ) (t : List A) → m * k ≤ length t → TableRest k m t (take (m * k) t) 0
rest_start k m t h = record { lines = rw (sub-zero m) (sym (parts_within k m t h)); exact = rw (sub-zero m) (length-take-le (m * k) t h) }

-- the next line is x
module _ {A : Type 0} {k m : ℕ} {t rest : List A} {i : ℕ} (a : TableRest k m t rest i) (some : 0 < k) (x ys : List A) (e : rest ≡ x ++ ys)
    (size : length x ≡ k) where
  line_left : k ≤ length rest
  line_left = omega (arith, ap length e, length-append x ys)

  one_less : m - i ≡ suc (m - (i + 1))
  one_less = go (m - i) refl a.exact
    where
      go : (j : ℕ) → j ≡ m - i → length rest ≡ j * k → m - i ≡ suc (m - (i + 1))
      go zero p q = absurd (omega (arith, line_left))
      go (suc j) p q = omega arith

  pub table_next : drop i (parts_of k m t) ≡ x ∷ parts_of k (m - (i + 1)) ys
  unfolding parts_of
  table_next = a.lines ∙ ap (λ (j : ℕ). parts_of k j rest) one_less ∙ rw e (seam k size)
    where
      seam : (n : ℕ) → length x ≡ n → take n (x ++ ys) ∷ parts_of k (m - (i + 1)) (drop n (x ++ ys)) ≡ x ∷ parts_of k (m - (i + 1)) ys
      seam n q = rw (← q, take-append_seam x ys, drop-append_seam x ys)

  -- the line made of it
  pub line_next : (f : List A → List ℕ) → drop i (map f (parts_of k m t)) ≡ f x ∷ map f (parts_of k (m - (i + 1)) ys)
  line_next f = made_next f (parts_of k m t) i table_next

  pub rest_step : TableRest k m t ys (i + 1)
  rest_step =
      record {
        lines = after_line (parts_of k m t) i table_next;
        exact = omega (arith, a.exact, ap (λ (j : ℕ). j * k) one_less, ap length e, length-append x ys);
      }

-- no line is left
module _ {A : Type 0} {k m : ℕ} {t rest : List A} {i : ℕ} (a : TableRest k m t rest i) (h : length rest < k) where
  pub table_none : drop i (parts_of k m t) ≡ []
  unfolding parts_of
  table_none = go (m - i) a.exact a.lines
    where
      go : (j : ℕ) → length rest ≡ j * k → drop i (parts_of k m t) ≡ parts_of k j rest → drop i (parts_of k m t) ≡ []
      go zero q l = l
      go (suc j) q l = absurd (omega arith)

  pub line_none : (f : List A → List ℕ) → drop i (map f (parts_of k m t)) ≡ []
  line_none f = made_none f (parts_of k m t) i table_none
