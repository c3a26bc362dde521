-- A column out of range is that of a name whose value is out of its range, and the leftmost such column.
use Prim.Native.Nat.{ℕ, zero, suc, ◌≤◌, ◌<◌}
use mathlib.Core.{Path.{◌≡◌, refl, sym, ◌∙◌}, Bool.{Bool, true, false, cond}, Logic.{◌⊎◌, inl, inr}, List.{List, [], ◌∷◌}}
use native.Mathlib.Omega.{arith}
use lib.ListN.{length, get_or}
use Rattle.text.proofs.Clash.{clash}
use Rattle.case.specs.{Columns.{Form, in_range}, Check.{left_of, out_of_range}, Parts.{range_at}}
use Rattle.case.proofs.{LeftOf.{left_least, left_one}, Ranges.{Some, in_range_lem, in_range_at}, Tests.{passed}}

pub record RangeBroken (form : Form) (at v : List ℕ) (column : ℕ) : Type 0 where
  pub name : ℕ
  pub known : name < length form
  pub column_is : column ≡ get_or at name 0
  pub outside : in_range (range_at form name) (get_or v name 0) ≡ false

pub range_broken : (form : Form) (at v : List ℕ) → (out_of_range form at v ≡ 0 → ⊥) → RangeBroken form at v (out_of_range form at v)
unfolding out_of_range range_at
range_broken [] at v e = absurd (e refl)
range_broken (k ∷ ks) [] v e = absurd (e refl)
range_broken (k ∷ ks) (c ∷ at) [] e = absurd (e refl)
range_broken (k ∷ ks) (c ∷ at) (x ∷ v) e = go (in_range k.range x) refl e (λ h. range_broken ks at v h)
  where
    later : {w : ℕ} → RangeBroken ks at v w → RangeBroken (k ∷ ks) (c ∷ at) (x ∷ v) w
    later r = record { name = suc r.name; known = omega (arith, r.known); column_is = r.column_is; outside = r.outside }

    go : (b : Bool) → in_range k.range x ≡ b → (cond b (out_of_range ks at v) (left_of c (out_of_range ks at v)) ≡ 0 → ⊥)
        → ((out_of_range ks at v ≡ 0 → ⊥) → RangeBroken ks at v (out_of_range ks at v))
        → RangeBroken (k ∷ ks) (c ∷ at) (x ∷ v) (cond b (out_of_range ks at v) (left_of c (out_of_range ks at v)))
    go true q h then = later (then h)
    go false q h then = which (left_one c (out_of_range ks at v))
      where
        which : ((left_of c (out_of_range ks at v) ≡ c) ⊎ ((left_of c (out_of_range ks at v) ≡ out_of_range ks at v) × (out_of_range ks at v ≡ 0
            → ⊥))) → RangeBroken (k ∷ ks) (c ∷ at) (x ∷ v) (left_of c (out_of_range ks at v))
        which (inl p) = record { name = zero; known = omega arith; column_is = p; outside = q }
        which (inr p) = rw p.0 (later (then p.1))

-- ---- no such column is further left

pub range_leftmost : (form : Form) (at v : List ℕ) → length at ≡ length form → length v ≡ length form → Some at → (k : ℕ)
    → k < length form → in_range (range_at form k) (get_or v k 0) ≡ false → out_of_range form at v ≤ get_or at k 0
unfolding out_of_range range_at
range_leftmost [] at v m n s k h o = absurd (omega arith)
range_leftmost (c ∷ form) [] v m n s k h o = absurd (omega arith)
range_leftmost (c ∷ form) (a ∷ at) [] m n s k h o = absurd (omega arith)
range_leftmost (c ∷ form) (a ∷ at) (x ∷ v) m n s zero h o = rw o (left_least a (out_of_range form at v)).0
range_leftmost (c ∷ form) (a ∷ at) (x ∷ v) m n s (suc k) h o =
    go (in_range c.range x) (range_leftmost form at v (omega arith) (omega arith) s.1 k (omega arith) o)
  where
    some : out_of_range form at v ≡ 0 → ⊥
    some z =
        let t = passed _ (in_range_at form v (omega arith) (in_range_lem form at v (omega arith) s.1 z) k) in
        let w : ◌≡◌ {A = Bool} true false = sym t ∙ o in
        clash cc

    go : (b : Bool) → out_of_range form at v ≤ get_or at k 0 → cond b (out_of_range form at v) (left_of a (out_of_range form at v)) ≤ get_or at k 0
    go true l = l
    go false l = omega (arith, (left_least a (out_of_range form at v)).1 some)
