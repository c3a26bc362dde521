-- Where no column is at fault, every value is in its range.
use Prim.Native.Nat.{ℕ, zero, suc, ◌≤◌, ◌<◌}
use mathlib.Core.{Path.{◌≡◌, sym, ◌∙◌}, Bool.{Bool, true, false, cond}, Logic.{◌⊎◌, inl, inr}, List.{List, [], ◌∷◌}}
use native.Mathlib.Omega.{arith}
use lib.{ListN.{length, get_or}, Dec.{T}}
use Rattle.case.specs.{Columns.{Form, in_range}, Check.{left_of, out_of_range}, Parts.{range_at}}
use Rattle.case.proofs.LeftOf.{left_one}

-- every value of the list passes the test of its column
abbrev pub InRange : Form → List ℕ → Type 0
InRange [] v = Unit {0}
InRange (k ∷ ks) [] = Unit {0}
InRange (k ∷ ks) (x ∷ v) = T (in_range k.range x) × InRange ks v

-- every column is at least 1
abbrev pub Some : List ℕ → Type 0
Some [] = Unit {0}
Some (c ∷ at) = (1 ≤ c) × Some at

left_some : (c d : ℕ) → 1 ≤ c → left_of c d ≡ 0 → ⊥
left_some c d h e = go (left_one c d)
  where
    go : ((left_of c d ≡ c) ⊎ ((left_of c d ≡ d) × (d ≡ 0 → ⊥))) → ⊥
    go (inl p) = omega arith
    go (inr p) = p.1 (sym p.0 ∙ e)

pub in_range_lem : (ks : Form) (at v : List ℕ) → length at ≡ length ks → Some at → out_of_range ks at v ≡ 0 → InRange ks v
unfolding out_of_range
in_range_lem [] at v n s h = tt
in_range_lem (k ∷ ks) [] [] n s h = tt
in_range_lem (k ∷ ks) [] (x ∷ v) n s h = absurd (omega arith)
in_range_lem (k ∷ ks) (c ∷ at) [] n s h = tt
in_range_lem (k ∷ ks) (c ∷ at) (x ∷ v) n s h =
    go (in_range k.range x) h (λ l. in_range_lem ks at v (omega arith) s.1 l)
  where
    go : (b : Bool) → cond b (out_of_range ks at v) (left_of c (out_of_range ks at v)) ≡ 0
        → (out_of_range ks at v ≡ 0 → InRange ks v) → T b × InRange ks v
    go true l next = (tt, next l)
    go false l next = absurd (left_some c (out_of_range ks at v) s.0 l)

pub some_columns : (at : List ℕ) (n : ℕ) → length at ≡ n → ((i : ℕ) → i < n → 1 ≤ get_or at i 0) → Some at
some_columns [] n e h = tt
some_columns (c ∷ at) zero e h = absurd (omega arith)
some_columns (c ∷ at) (suc n) e h = (h 0 (omega arith), some_columns at n (omega arith) (λ i l. h (suc i) (omega arith)))

-- the value with index i is in the range of the column with index i
pub in_range_at : (form : Form) (v : List ℕ) → length v ≡ length form → InRange form v → (i : ℕ) → T (in_range (range_at form i) (get_or v i 0))
unfolding range_at in_range
in_range_at [] [] n r i = tt
in_range_at [] (x ∷ v) n r i = absurd (omega arith)
in_range_at (k ∷ ks) [] n r i = absurd (omega arith)
in_range_at (k ∷ ks) (x ∷ v) n r zero = r.0
in_range_at (k ∷ ks) (x ∷ v) n r (suc i) = in_range_at ks v (omega arith) r.1 i
