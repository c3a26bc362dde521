-- The lesser of two columns, where 0 is none: it is not right of either, and it is one of them.
use Prim.Native.Nat.{ℕ, ◌≤◌}
use mathlib.Core.{Path.{◌≡◌, refl}, Bool.{Bool, true, false, cond}, Logic.{◌⊎◌, inl, inr}}
use native.Mathlib.Omega.{arith}
use lib.Dec.{leb, eqb}
use borrow.Author.Tests.{eqb-true, eqb-false, leb-true, leb-false}
use Rattle.case.specs.Check.{left_of}

pub left_least : (c d : ℕ) → (left_of c d ≤ c) × ((d ≡ 0 → ⊥) → left_of c d ≤ d)
unfolding left_of
left_least c d = go (eqb d 0) refl (leb c d) refl
  where
    go : (b : Bool) → eqb d 0 ≡ b → (l : Bool) → leb c d ≡ l → (cond b c (cond l c d) ≤ c) × ((d ≡ 0 → ⊥) → cond b c (cond l c d) ≤ d)
    go true e l k = (omega arith, λ z. absurd (z (eqb-true d 0 e)))
    go false e true k = (omega arith, λ z. leb-true c d k)
    go false e false k = (omega (arith, leb-false c d k), λ z. omega arith)

pub left_one : (c d : ℕ) → (left_of c d ≡ c) ⊎ ((left_of c d ≡ d) × (d ≡ 0 → ⊥))
unfolding left_of
left_one c d = go (eqb d 0) refl (leb c d)
  where
    go : (b : Bool) → eqb d 0 ≡ b → (l : Bool) → (cond b c (cond l c d) ≡ c) ⊎ ((cond b c (cond l c d) ≡ d) × (d ≡ 0 → ⊥))
    go true e l = inl refl
    go false e true = inl refl
    go false e false = inr (refl, eqb-false d 0 e)
