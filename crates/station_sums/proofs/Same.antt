-- Two signed numbers are the same where their bits are.
use Prim.Native.Nat.{ℕ}
use mathlib.Core.{Path.{◌≡◌, refl, sym, ap, ◌∙◌}, Bool.{Bool, true, false}}
use native.Mathlib.Omega.{arith}
use lib.{Dec.{eqb}, IntN.{ℤ, pos, negsuc}}
use borrow.Author.Tests.{eqb-true, eq-eqb}
use mir.{Syntax.{w64}, Val.{SFits, to_z, of_z}, Facts.{to_z-of_z}}
use Rattle.text.proofs.Clash.{clash}
use Rattle.station_sums.specs.Summary.{same_z}

pub same_refl : (a : ℤ) → same_z a a ≡ true
unfolding same_z
same_refl (pos m) = eq-eqb m m refl
same_refl (negsuc m) = eq-eqb m m refl

pub same_eq : (a b : ℤ) → same_z a b ≡ true → a ≡ b
unfolding same_z
same_eq (pos m) (pos n) h = ap pos (eqb-true m n h)
same_eq (pos m) (negsuc n) h = clash cc
same_eq (negsuc m) (pos n) h = clash cc
same_eq (negsuc m) (negsuc n) h = ap negsuc (eqb-true m n h)

agree : (p q : Bool) → (p ≡ true → q ≡ true) → (q ≡ true → p ≡ true) → p ≡ q
agree true q f g = sym (f refl)
agree false true f g = g refl
agree false false f g = refl

pub same_bits : {a b : ℤ} → SFits w64 a → SFits w64 b → eqb (of_z w64 a) (of_z w64 b) ≡ same_z a b
same_bits {a} {b} f g =
    agree (eqb (of_z w64 a) (of_z w64 b)) (same_z a b) (λ h. there (eqb-true _ _ h)) (λ h. eq-eqb _ _ (ap (of_z w64) (same_eq a b h)))
  where
    there : of_z w64 a ≡ of_z w64 b → same_z a b ≡ true
    there e =
        let z : a ≡ b = sym (to_z-of_z f) ∙ ap (to_z w64) e ∙ to_z-of_z g in
        rw z (same_refl b)

pub same_comm : (a b : ℤ) → same_z a b ≡ same_z b a
same_comm a b = agree (same_z a b) (same_z b a) (λ h. rw (same_eq a b h) (same_refl b)) (λ h. rw (same_eq b a h) (same_refl a))

pub not_same : (a b : ℤ) → (a ≡ b → ⊥) → same_z a b ≡ false
not_same a b h = go (same_z a b) refl
  where
    go : (c : Bool) → same_z a b ≡ c → c ≡ false
    go true e = absurd (h (same_eq a b e))
    go false e = refl

pub same_apart : {a b : ℤ} → same_z a b ≡ false → a ≡ b → ⊥
same_apart {a} {b} f e =
    let z : true ≡ false = sym (same_refl b) ∙ ap (λ (x : ℤ). same_z x b) (sym e) ∙ f in
    let o : ◌≡◌ {A = ℕ} 0 1 = cc in
    omega arith
