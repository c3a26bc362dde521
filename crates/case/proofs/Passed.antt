-- An answer that comes after another: neither is a refusal.
use Prim.Native.Nat.{ℕ}
use mathlib.Core.Path.{◌≡◌, refl}
use Rattle.text.proofs.Clash.{clash}
use Rattle.case.specs.{Counted.{refused_or}}
use Rattle.std.specs.Prelude.{Result, Ok, Err}
use Rattle.refusal.specs.{declared.Refused.{Refused}}

pub passed : {A B : Type 0} {y : B} (first : Result A Refused) (next : Result B Refused) → Ok y ≡ refused_or first next
    → (x : A) × (first ≡ Ok x) × (Ok y ≡ next)
unfolding refused_or
passed (Ok x) next e = (x, refl, e)
passed (Err why) next e = clash cc
