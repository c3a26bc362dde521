-- Tests by two ends, and a question that a test settles.
use Prim.Native.Nat.{ℕ}
use mathlib.Core.{Path.{◌≡◌, refl}, Bool.{Bool, true, false, ◌&&◌}}
use lib.{Dec.{leb}, IntN.{ℤ}, Signed.{◌≤ℤ◌, le_z, le_z_yes}}
use borrow.Author.Tests.{leb-true, le-leb}
use mir.Facts.{and_yes as both, yes_and}
use Rattle.text.proofs.Clash.{clash}
use Rattle.case.{specs.Bounds.{Between}, proofs.Tests.{passed}}

pub and_yes : (a b : Bool) → a && b ≡ true → (a ≡ true) × (b ≡ true)
and_yes true b e = (refl, e)
and_yes false b e = clash cc

module _ (a x b : ℕ) where
  pub between_yes : leb a x && leb x b ≡ true → Between a x b
  between_yes e = let p = and_yes (leb a x) (leb x b) e in record { low = leb-true a x p.0; high = leb-true x b p.1 }

  pub between_no : leb a x && leb x b ≡ false → ¬ Between a x b
  between_no e h =
      let p : true ≡ false = rw (le-leb a x h.low, le-leb x b h.high) at e in
      clash cc

-- of signed numbers
module _ (a x b : ℤ) where
  pub betweenℤ_yes : le_z a x && le_z x b ≡ true → (a ≤ℤ x) × (x ≤ℤ b)
  betweenℤ_yes e = let p = both (le_z a x) (le_z x b) (rw e tt) in (le_z_yes p.0, le_z_yes p.1)

  pub betweenℤ_is : (a ≤ℤ x) × (x ≤ℤ b) → le_z a x && le_z x b ≡ true
  betweenℤ_is h = passed _ (yes_and (le_z a x) (le_z x b) h.0.le h.1.le)
