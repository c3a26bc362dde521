-- The names of a line in turn: what holds of the columns left of column c, while the fields fs are left, and what becomes of the next
-- field.
use Prim.Native.Nat.{ℕ, ◌+◌, ◌-◌, ◌≤◌, ◌<◌}
use mathlib.Core.{Path.{◌≡◌, refl, sym, ap, ◌∙◌}, Bool.{Bool, true, false, cond, ◌&&◌}, List.{List, [], ◌∷◌}}
use native.Mathlib.{Decide.{ℕ_discrete}, Omega.{arith}}
use lib.{ListN.{length, get_or, set, drop}, Seq.{get_or-set_same, get_or-set_other, get_or-drop, drop-drop}, Dec.{eqb, ltb}}
use borrow.Author.Tests.{eqb-true, eqb-false, ltb-true, ltb-false}
use Rattle.std.specs.Prelude.{Some}
use Rattle.case.specs.Columns.{Form, name_index}
use Rattle.header.specs.{Header.{no_columns, fresh}, Parts.{found_name}, Names.{field_at}}
use Rattle.header.proofs.HeaderReading.{HeaderAt, header_start, header_step}

pub record NamedAt (form : Form) (all : List (List ℕ)) (at : List ℕ) (fs : List (List ℕ)) (c : ℕ) : Type 0 where
  pub header : HeaderAt form all at fs c
  pub rest : drop (c - 1) all ≡ fs
  pub size : c + length fs ≡ length all + 1
  pub stands : (k : ℕ) → 1 ≤ get_or at k 0 → name_index form (field_at all (get_or at k 0)) ≡ k
  pub column : (i : ℕ) → 1 ≤ i → i < c → get_or at (name_index form (field_at all i)) 0 ≡ i

pub named_start : (form : Form) (all : List (List ℕ)) → NamedAt form all (no_columns form) all 1
named_start form all =
    let h = header_start form all in
    record {
      header = h;
      rest = refl;
      size = omega arith;
      stands = λ k l. absurd (omega (arith, h.under k));
      column = λ i l m. absurd (omega arith);
    }

module _ {form : Form} {all : List (List ℕ)} {at t : List ℕ} {fs : List (List ℕ)} {c : ℕ} (a : NamedAt form all at (t ∷ fs) c) where
  -- the next field is the one in column c
  pub field_here : field_at all c ≡ t
  field_here =
      let z : c - 1 + 0 ≡ c - 1 = omega arith in
      sym (rw z at (get_or-drop (c - 1) all 0 [])) ∙ ap (λ (l : List (List ℕ)). get_or l 0 []) a.rest

  pub named_step : found_name form t ≡ Some (name_index form t) → name_index form t < length form → get_or at (name_index form t) 0 ≡ 0
      → NamedAt form all (set at (name_index form t) c) fs (c + 1)
  named_step found within free =
      record {
        header = header_step a.header refl found free;
        rest = later;
        size = omega (arith, a.size);
        stands = λ j l. stands j (ℕ_discrete j (name_index form t)) l;
        column = λ i l m. column i (ℕ_discrete i c) l m;
      }
    where
      later : drop (c + 1 - 1) all ≡ fs
      later = let e : c + 1 - 1 ≡ c - 1 + 1 = omega (arith, a.header.first) in rw (e, ← drop-drop 1 (c - 1) all, a.rest)

      set_here : get_or (set at (name_index form t) c) (name_index form t) 0 ≡ c
      set_here = get_or-set_same at (name_index form t) c 0 (omega (arith, a.header.count))

      stands : (j : ℕ) → Dec (j ≡ name_index form t) → 1 ≤ get_or (set at (name_index form t) c) j 0
          → name_index form (field_at all (get_or (set at (name_index form t) c) j 0)) ≡ j
      stands j (yes p) l = rw (p, set_here, field_here)
      stands j (no p) l =
          let q = get_or-set_other at (name_index form t) j c 0 p in
          rw q (a.stands j (rw q at l))

      column : (i : ℕ) → Dec (i ≡ c) → 1 ≤ i → i < c + 1 → get_or (set at (name_index form t) c) (name_index form (field_at all i)) 0 ≡ i
      column i (yes p) l m = rw (p, field_here, set_here)
      column i (no p) l m =
          let q = a.column i l (omega (arith, p)) in
          let o : (name_index form (field_at all i) ≡ name_index form t) → ⊥ = λ z. omega (arith, q, free, ap (λ (x : ℕ). get_or at x 0) z) in
          rw (get_or-set_other at (name_index form t) (name_index form (field_at all i)) c 0 o) q

-- what becomes of the next field, by whether it is known and has no column yet
pub data Next (form : Form) (at t : List ℕ) (r c : ℕ) : ℕ → Type 0 where
  new : found_name form t ≡ Some (name_index form t) → name_index form t < length form → get_or at (name_index form t) 0 ≡ 0 → Next form at t r c r
  strange : length form ≤ name_index form t → Next form at t r c c
  known : name_index form t < length form → (get_or at (name_index form t) 0 ≡ 0 → ⊥) → Next form at t r c c

pub next : (form : Form) (at t : List ℕ) (r c : ℕ) → Next form at t r c (cond (fresh form at t) r c)
unfolding fresh found_name
next form at t r c = go (ltb (name_index form t) (length form)) refl (eqb (get_or at (name_index form t) 0) 0) refl
  where
    go : (p : Bool) → ltb (name_index form t) (length form) ≡ p → (q : Bool) → eqb (get_or at (name_index form t) 0) 0 ≡ q
        → Next form at t r c (cond (p && q) r c)
    go true e true f = new (rw e) (ltb-true _ _ e) (eqb-true _ 0 f)
    go true e false f = known (ltb-true _ _ e) (eqb-false _ 0 f)
    go false e q f = strange (ltb-false _ _ e)
