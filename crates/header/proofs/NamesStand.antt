-- A line of names in words: where it has no wrong column, each name of the form stands in its column and in no other; else what is wrong.
use Prim.Native.Nat.{ℕ, zero, suc, ◌+◌, ◌≤◌, ◌<◌}
use mathlib.Core.{Path.{◌≡◌, refl, sym, ap, ◌∙◌}, Bool.{Bool, true, false, cond}, List.{List, [], ◌∷◌}}
use native.Mathlib.{Numerals.{add-one}, Omega.{arith}}
use lib.{ListN.{length, get_or, set}, Dec.{leb}}
use borrow.Author.Tests.{leb-true, leb-false}
use Rattle.case.specs.Columns.{Form, name_index}
use Rattle.header.specs.{Header.{no_columns, wrong_name, columns_from, columns_of}, Parts.{name_at}}
use Rattle.header.specs.Names.{field_at, StandsAt, StandsOnce, KnownName, WrongName, unknown, again, missing, Leftmost, None}
use Rattle.header.proofs.{HeaderReading.{header_placed}, NameIndices.{index_name, name_known}}
use Rattle.header.proofs.NamesRead.{NamedAt, named_start, field_here, named_step, Next, new, strange, known, next}

-- each name of the form stands in its column, and each column has its name
pub record Named (form : Form) (all : List (List ℕ)) (at : List ℕ) : Type 0 where
  pub count : length all ≡ length form
  pub some : (k : ℕ) → k < length form → 1 ≤ get_or at k 0
  pub within : (k : ℕ) → get_or at k 0 ≤ length form
  pub known : (i : ℕ) → 1 ≤ i → i ≤ length form → name_index form (field_at all i) < length form
  pub stands : (k : ℕ) → k < length form → name_index form (field_at all (get_or at k 0)) ≡ k
  pub column : (i : ℕ) → 1 ≤ i → i ≤ length form → get_or at (name_index form (field_at all i)) 0 ≡ i

-- a place with a column is one of the list
some_within : (at : List ℕ) (k : ℕ) → 1 ≤ get_or at k 0 → k < length at
some_within [] k h = absurd (omega arith)
some_within (x ∷ at) zero h = omega arith
some_within (x ∷ at) (suc k) h = omega (arith, some_within at k h)

named_from : (form : Form) (all fs : List (List ℕ)) (at : List ℕ) (c : ℕ) → NamedAt form all at fs c → wrong_name form c at fs ≡ 0
    → Named form all (columns_from form c at fs)
unfolding wrong_name columns_from
named_from form all [] at c a e = go (leb c (length form)) refl e
  where
    here : (i : ℕ) → 1 ≤ i → i ≤ length form → length form < c → 1 ≤ get_or at (name_index form (field_at all i)) 0
    here i h m l = omega (arith, a.column i h (omega arith))

    go : (b : Bool) → leb c (length form) ≡ b → cond b c 0 ≡ 0 → Named form all at
    go true f z = absurd (omega (arith, a.header.first))
    go false f z =
        let l = leb-false c (length form) f in
        let p = header_placed a.header l in
        record {
          count = omega (arith, a.size, a.header.left);
          some = p.some;
          within = p.within;
          known = λ i h m. omega (arith, a.header.count, some_within at (name_index form (field_at all i)) (here i h m l));
          stands = λ k h. a.stands k (p.some k h);
          column = λ i h m. a.column i h (omega arith);
        }
named_from form all (t ∷ fs) at c a e =
    go (next form at t (wrong_name form (suc c) (set at (name_index form t) c) fs) c) e
    (λ b z. named_from form all fs (set at (name_index form t) c) (suc c) (rw (add-one c) at b) z)
  where
    go : {w : ℕ} → Next form at t (wrong_name form (suc c) (set at (name_index form t) c) fs) c w → w ≡ 0
        → (NamedAt form all (set at (name_index form t) c) fs (c + 1) → wrong_name form (suc c) (set at (name_index form t) c) fs ≡ 0
        → Named form all (columns_from form (suc c) (set at (name_index form t) c) fs))
        → Named form all (columns_from form (suc c) (set at (name_index form t) c) fs)
    go (new p q r) z then = then (named_step a p q r) z
    go (strange l) z then = absurd (omega (arith, a.header.first))
    go (known l m) z then = absurd (omega (arith, a.header.first))

pub names_stand : (form : Form) (all : List (List ℕ)) → wrong_name form 1 (no_columns form) all ≡ 0 → Named form all (columns_of form all)
unfolding columns_of
names_stand form all e = named_from form all all (no_columns form) 1 (named_start form all) e

module _ {form : Form} {all : List (List ℕ)} {at : List ℕ} (n : Named form all at) (k : ℕ) (h : k < length form) where
  -- the field in the column of a name is the name
  pub name_stands : StandsAt all (name_at form k) (get_or at k 0)
  name_stands =
      let e = n.stands k h in
      record {
        first = n.some k h;
        last = omega (arith, n.within k, n.count);
        is = index_name form (field_at all (get_or at k 0)) (omega arith) ∙ ap (name_at form) e;
      }

  pub stands_once : StandsOnce all (name_at form k)
  stands_once =
      record {
        column = get_or at k 0;
        stands = name_stands;
        only = λ c t. only c t.first (omega (arith, t.last, n.count)) (t.is ∙ sym name_stands.is);
      }
    where
      only : (c : ℕ) → 1 ≤ c → c ≤ length form → field_at all c ≡ field_at all (get_or at k 0) → c ≡ get_or at k 0
      only c l m e =
          sym (n.column c l m) ∙ ap (λ (t : List ℕ). get_or at (name_index form t) 0) e ∙ n.column (get_or at k 0) (n.some k h) (n.within k)

-- each column has one of the names
pub name_known_at : {form : Form} {all : List (List ℕ)} {at : List ℕ} → Named form all at → (i : ℕ) → 1 ≤ i → i ≤ length form
    → KnownName form (field_at all i)
name_known_at {form} {all} n i h m =
    let k = n.known i h m in
    record { index = name_index form (field_at all i); within = k; is = index_name form (field_at all i) k }

-- so no column is wrong
pub no_wrong_name : {form : Form} {all : List (List ℕ)} {at : List ℕ} → Named form all at → None (WrongName form all)
no_wrong_name n c (unknown l m u) = u (name_known_at n c l (omega (arith, n.count)))
no_wrong_name {form} {all} {at} n c (again m left l t) =
    let p = n.column c (omega arith) (omega (arith, n.count)) in
    let q = n.column left t.first (omega (arith, n.count)) in
    omega (arith, p, q, ap (λ (x : List ℕ). get_or at (name_index form x) 0) t.is)
no_wrong_name n c (missing l e) = omega (arith, n.count)

-- ---- a line of names with a wrong column

-- no column further left is wrong
left_right : {form : Form} {all fs : List (List ℕ)} {at : List ℕ} {c : ℕ} → NamedAt form all at fs c
    → (left : ℕ) → left < c → ¬ WrongName form all left
left_right {form} {all} {at = at} a left h (unknown l m u) =
    let k : name_index form (field_at all left) < length form =
    omega (arith, a.header.count, some_within at (name_index form (field_at all left)) (omega (arith, a.column left l h))) in
    u (record { index = name_index form (field_at all left); within = k; is = index_name form (field_at all left) k })
left_right {form} {at = at} a left h (again m other l t) =
    let p = a.column left (omega (arith, t.first)) h in
    let q = a.column other t.first (omega arith) in
    omega (arith, p, q, ap (λ (n : List ℕ). get_or at (name_index form n) 0) t.is)
left_right a left h (missing l e) = omega (arith, a.size)

wrong_from : (form : Form) (all fs : List (List ℕ)) (at : List ℕ) (c : ℕ) → NamedAt form all at fs c → (wrong_name form c at fs ≡ 0 → ⊥)
    → Leftmost (WrongName form all) (wrong_name form c at fs)
unfolding wrong_name
wrong_from form all [] at c a e = go (leb c (length form)) refl e
  where
    go : (b : Bool) → leb c (length form) ≡ b → (cond b c 0 ≡ 0 → ⊥) → Leftmost (WrongName form all) (cond b c 0)
    go true f z =
        let l = leb-true c (length form) f in
        record { here = missing (omega (arith, a.size)) (omega (arith, a.size)); first = left_right a }
    go false f z = absurd (z refl)
wrong_from form all (t ∷ fs) at c a e =
    go (next form at t (wrong_name form (suc c) (set at (name_index form t) c) fs) c) e
    (λ b z. wrong_from form all fs (set at (name_index form t) c) (suc c) (rw (add-one c) at b) z)
  where
    here : KnownName form (field_at all c) → name_index form t < length form
    here n = rw (← field_here a, n.is) (name_known form n.index n.within)

    go : {w : ℕ} → Next form at t (wrong_name form (suc c) (set at (name_index form t) c) fs) c w → (w ≡ 0 → ⊥)
        → (NamedAt form all (set at (name_index form t) c) fs (c + 1) → (wrong_name form (suc c) (set at (name_index form t) c) fs ≡ 0 → ⊥)
        → Leftmost (WrongName form all) (wrong_name form (suc c) (set at (name_index form t) c) fs)) → Leftmost (WrongName form all) w
    go (new p q r) z then = then (named_step a p q r) z
    go (strange l) z then =
        record { here = unknown a.header.first (omega (arith, a.size)) (λ n. omega (arith, here n)); first = left_right a }
    go (known l m) z then =
        let left = get_or at (name_index form t) 0 in
        let some : 1 ≤ left = omega (arith, m) in
        let q = a.stands (name_index form t) some in
        let u : left < c = a.header.under (name_index form t) in
        let stands : StandsAt all (field_at all c) left
        = record {
          first = some;
          last = omega (arith, a.size);
          is = index_name form (field_at all left) (omega arith) ∙ ap (name_at form) q ∙ sym (index_name form t l) ∙ sym (field_here a);
        } in
        record { here = again (omega (arith, a.size)) left u stands; first = left_right a }

-- the leftmost wrong column
pub wrong_name_lem : (form : Form) (all : List (List ℕ)) → (wrong_name form 1 (no_columns form) all ≡ 0 → ⊥)
    → Leftmost (WrongName form all) (wrong_name form 1 (no_columns form) all)
wrong_name_lem form all e = wrong_from form all all (no_columns form) 1 (named_start form all) e
