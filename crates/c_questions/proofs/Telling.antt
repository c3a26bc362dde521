-- An answer reported to C, under another name for it.
use Prim.Native.Nat.{ℕ}
use mathlib.Core.{Path.{◌≡◌, ap, ◌∙◌}, List.{List}}
use lib.IntN.{ℤ}
use Rattle.c_tell.specs.{Answer.{signed_answer}, Place.{place_after}, Told.{Told}}
use Rattle.std.specs.Prelude.{Result}
use Rattle.refusal.specs.{declared.Refused.{Refused}}

pub told_as : {a b : Result ℕ Refused} {place pointed : List ℕ} {r z : ℤ} → z ≡ r → a ≡ b → Told a place pointed r → Told b place pointed z
told_as {a} {b} {place} q e t =
    record { answer_is = q ∙ t.answer_is ∙ ap signed_answer e; place_is = t.place_is ∙ ap (λ x. place_after x place) e }
