-- The ranges as three numbers each: a value between the first two, or the third, is in the range.
use Prim.Native.Nat.{ℕ, zero, suc, ◌+◌, ◌≤◌, ◌<◌}
use mathlib.Core.{Path.{◌≡◌, refl, sym, ap, ◌∙◌}, Bool.{Bool, true, false, ◌&&◌, ◌||◌, or_comm}, List.{List, [], ◌∷◌, map}}
use native.Mathlib.{Decide.{ℕ_discrete, dec_lt}, Omega.{arith}}
use lib.{ListN.{length, get_or}, Dec.{leb, eqb}}
use borrow.Author.Tests.{eq-eqb, ne_eqb, le-leb, lt-leb}
use Rattle.text.proofs.Clash.{clash}
use Rattle.case.specs.Columns.{Range, Column, from, zero_or, either, in_range, Form, columns, name_count, name_count_lem, all_columns}
use Rattle.case.specs.{Columns.{all_count_lem}, Check.{out_of_range}, Parts.{range_at, low_of, high_of, other_of, numbers_of, passes, form_of, SameColumn, InRanges}}
use Rattle.case.specs.declared.{Form.{Form as CodeForm}, range.Range.{Range as CodeRange}}

or-false : (a : Bool) → (a || false) ≡ a
or-false true = refl
or-false false = refl

and_left : (a b : Bool) → (a && b) ≡ true → a ≡ true
and_left true b e = refl
and_left false b e = e

and_right : (a b : Bool) → (a && b) ≡ true → b ≡ true
and_right true b e = e
and_right false b e = clash cc

-- the test is that of the range, where its low end is not above its high end
passes_is : (r : Range) (x : ℕ) → leb (low_of r) (high_of r) ≡ true → passes (numbers_of r) x ≡ in_range r x
unfolding in_range low_of high_of other_of numbers_of passes
passes_is (from low high) x o = go (ℕ_discrete x low)
  where
    go : Dec (x ≡ low) → ((leb low x && leb x high) || eqb x low) ≡ (leb low x && leb x high)
    go (yes p) = rw (p, le-leb low low (omega arith), o)
    go (no p) = rw (ne_eqb x low p, or-false)
passes_is (zero_or low high) x o = or_comm _ (eqb x 0)
passes_is (either a b) x o = go (ℕ_discrete x a) (dec_lt x a)
  where
    go : Dec (x ≡ a) → Dec (x < a) → ((leb a x && leb x a) || eqb x b) ≡ (eqb x a || eqb x b)
    go (yes p) d = rw (p, le-leb a a (omega arith), eq-eqb a a refl)
    go (no p) (yes l) = rw (ne_eqb x a p, lt-leb a x l)
    go (no p) (no l) = rw (ne_eqb x a p, le-leb a x (omega arith), lt-leb x a (omega (arith, p)))

-- no range has its low end above its high end
abbrev orderly : Form → Bool
orderly [] = true
orderly (c ∷ form) = leb (low_of c.range) (high_of c.range) && orderly form

entry_is : (form : Form) → orderly form ≡ true → (k : ℕ) (d : CodeRange) → k < length form → (x : ℕ)
    → passes (get_or (map (λ c. numbers_of c.range) form) k d) x ≡ in_range (range_at form k) x
unfolding range_at
entry_is [] o k d h x = absurd (omega arith)
entry_is (c ∷ form) o zero d h x = passes_is c.range x (and_left (leb (low_of c.range) (high_of c.range)) (orderly form) o)
entry_is (c ∷ form) o (suc k) d h x =
    entry_is form (and_right (leb (low_of c.range) (high_of c.range)) (orderly form) o) k d (omega arith) x

orderly_columns : orderly all_columns ≡ true
unfolding columns all_columns low_of high_of
orderly_columns = refl

-- the test of a value by the entry of the name with index k of a form in the table of both
pub table_entry : {table : List CodeRange} → table ≡ map (λ c. numbers_of c.range) all_columns → {form : CodeForm} {k i : ℕ} (d : CodeRange)
    → SameColumn form k i → (x : ℕ) → passes (get_or table i d) x ≡ in_range (range_at (form_of form) k) x
unfolding range_at
table_entry e {form} {k} {i} d s x =
    rw e
    (entry_is all_columns orderly_columns i d (omega (arith, s.within, all_count_lem)) x ∙ ap (λ (c : Column). in_range c.range x) s.is)

-- ---- the pass over the values of today's form: what holds when the first k are done

pub record Tested (v : List ℕ) (all : Bool) (k : ℕ) : Type 0 where
  pub most : k ≤ name_count
  pub each : all ≡ true → (j : ℕ) → j < k → in_range (range_at columns j) (get_or v j 0) ≡ true

pub tested_start : (v : List ℕ) → Tested v true 0
tested_start v = record { most = omega arith; each = λ e j h. absurd (omega arith) }

pub tested_step : {v : List ℕ} {all here : Bool} {k : ℕ} → Tested v all k → k < name_count
    → here ≡ in_range (range_at columns k) (get_or v k 0) → Tested v (all && here) (k + 1)
tested_step {v} {all} {here} {k} a h t =
    record { most = omega arith; each = λ e j l. go j (ℕ_discrete j k) l (and_left all here e) (and_right all here e) }
  where
    go : (j : ℕ) → Dec (j ≡ k) → j < k + 1 → all ≡ true → here ≡ true → in_range (range_at columns j) (get_or v j 0) ≡ true
    go j (yes p) l e f = rw p (sym t ∙ f)
    go j (no p) l e f = a.each e j (omega (arith, p))

pub tested_end : {v : List ℕ} {all : Bool} {k : ℕ} → Tested v all k → name_count ≤ k → all ≡ true → InRanges columns v
tested_end a h e = record { each = λ j l. a.each e j (omega (arith, name_count_lem)) }

-- where every value is in its range, no column is at fault
none_out : (form : Form) (at v : List ℕ) → ((k : ℕ) → k < length form → in_range (range_at form k) (get_or v k 0) ≡ true)
    → out_of_range form at v ≡ 0
unfolding out_of_range range_at
none_out [] at v h = refl
none_out (k ∷ ks) [] v h = refl
none_out (k ∷ ks) (c ∷ at) [] h = refl
none_out (k ∷ ks) (c ∷ at) (x ∷ v) h = rw (h 0 (omega arith)) (none_out ks at v (λ j l. h (suc j) (omega arith)))

pub in_ranges : {form : Form} {v : List ℕ} (at : List ℕ) → InRanges form v → out_of_range form at v ≡ 0
in_ranges {form} {v} at a = none_out form at v a.each
