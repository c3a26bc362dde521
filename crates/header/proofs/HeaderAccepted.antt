-- A header with no wrong column gives each name a column.
use Prim.Native.Nat.{ℕ, ◌+◌, ◌≤◌, ◌<◌}
use mathlib.Core.{Path.{◌≡◌, refl}, Bool.{Bool, true, false, cond, ◌&&◌}, List.{List, [], ◌∷◌}}
use native.Mathlib.{Numerals.{add-one}, Omega.{arith}}
use lib.{ListN.{length, get_or, set}, Dec.{eqb, ltb, leb}}
use borrow.Author.Tests.{eqb-true, leb-false}
use Rattle.std.specs.Prelude.{Some}
use Rattle.case.specs.{Columns.{Form, name_index}, Bounds.{Placed}}
use Rattle.header.specs.Header.{no_columns, fresh, wrong_name, columns_from, columns_of}
use Rattle.header.specs.Parts.{found_name}
use Rattle.header.proofs.HeaderReading.{HeaderAt, header_start, header_step, header_placed}

-- a fresh name was found, and stands no further left
record Fresh (form : Form) (at t : List ℕ) (r : ℕ) : Type 0 where
  found : found_name form t ≡ Some (name_index form t)
  first : get_or at (name_index form t) 0 ≡ 0
  then : r ≡ 0

fresh_name : (form : Form) (at t : List ℕ) (c r : ℕ) → 1 ≤ c → cond (fresh form at t) r c ≡ 0 → Fresh form at t r
unfolding fresh found_name
fresh_name form at t c r h = go (ltb (name_index form t) (length form)) refl (eqb (get_or at (name_index form t) 0) 0) refl
  where
    go : (p : Bool) → ltb (name_index form t) (length form) ≡ p → (q : Bool) → eqb (get_or at (name_index form t) 0) 0 ≡ q
        → cond (p && q) r c ≡ 0 → Fresh form at t r
    go true e true f z = record { found = rw e; first = eqb-true _ 0 f; then = z }
    go true e false f z = absurd (omega arith)
    go false e q f z = absurd (omega arith)

placed_from : (form : Form) (all fs : List (List ℕ)) (at : List ℕ) (c : ℕ) → HeaderAt form all at fs c → wrong_name form c at fs ≡ 0
    → Placed (length form) (columns_from form c at fs)
unfolding wrong_name columns_from
placed_from form all [] at c a e = header_placed a (past (leb c (length form)) refl e)
  where
    past : (b : Bool) → leb c (length form) ≡ b → cond b c 0 ≡ 0 → length form < c
    past true f z = absurd (omega (arith, a.first))
    past false f z = leb-false c (length form) f
placed_from form all (t ∷ fs) at c a e =
    let q = fresh_name form at t c _ a.first e in
    rw (← add-one c)
    (placed_from form all fs (set at (name_index form t) c) (c + 1) (header_step a refl q.found q.first) (rw (add-one c) q.then))

pub header_accepted : (form : Form) (all : List (List ℕ)) → wrong_name form 1 (no_columns form) all ≡ 0
    → Placed (length form) (columns_of form all)
unfolding columns_of
header_accepted form all e = placed_from form all all (no_columns form) 1 (header_start form all) e
