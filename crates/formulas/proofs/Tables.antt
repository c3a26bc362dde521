-- A table's range: one test computed over the table, and a law that turns it into the rule at each entry.
use Prim.Native.Nat.{ℕ, zero, suc, ◌<◌}
use mathlib.Core.{Bool.{Bool, true, ◌&&◌}, List.{List, [], ◌∷◌}}
use native.Mathlib.Omega.{arith}
use lib.{ListN.{length, get_or}, Dec.{T, leb, leb→le}}
use mir.Facts.{and_yes}
use Rattle.case.specs.Bounds.{Between}

module _ (a b : ℕ) where
  -- every number of a list lies from a to b
  unfoldable pub inside : List ℕ → Bool
  inside [] = true
  inside (x ∷ xs) = leb a x && leb x b && inside xs

  pub entry_inside : (xs : List ℕ) (i : ℕ) → T (inside xs) → i < length xs → Between a (get_or xs i 0) b
  unfolding inside
  entry_inside [] i t l = absurd (omega arith)
  entry_inside (x ∷ xs) zero t l =
      let h = (and_yes (leb a x && leb x b) (inside xs) t).0 in
      record { low = leb→le a x (and_yes (leb a x) (leb x b) h).0; high = leb→le x b (and_yes (leb a x) (leb x b) h).1 }
  entry_inside (x ∷ xs) (suc i) t l = entry_inside xs i (and_yes (leb a x && leb x b) (inside xs) t).1 (omega arith)
