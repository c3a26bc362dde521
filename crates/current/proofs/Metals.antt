-- Every metal of a case has its Kf.
use Prim.Native.Nat.{ℕ}
use mathlib.Core.Path.{◌≡◌}
use borrow.Author.Tests.{le-leb}
use Rattle.text.proofs.Clash.{clash}
use Rattle.case.specs.Bounds.{Between}
use Rattle.formulas.specs.Size as Size
use Rattle.std.specs.Prelude.{Option, Some, None}
use Rattle.current.specs.Metal.{constant_of}

module _ {m : ℕ} (b : Between 1 m 11) where
  known : constant_of m ≡ Some (Size.Kf m)
  unfolding constant_of
  known = simp (le-leb 1 m b.low, le-leb m 11 b.high)

  -- what is found is the metal's
  pub kf_found : {r : Option ℕ} {v : ℕ} → r ≡ constant_of m → r ≡ Some v → v ≡ Size.Kf m
  kf_found e f = let k = known in cc

  -- and something is found
  pub kf_missing : {r : Option ℕ} → r ≡ constant_of m → r ≡ None → ⊥
  kf_missing e f = let k = known in clash cc
