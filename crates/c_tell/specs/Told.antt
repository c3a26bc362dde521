-- §11.1: an answer as reported to a program in C: one signed number, and a place of two numbers.
use Rattle.std.specs.Prelude.{ℕ}
use mathlib.Core.{Path.{◌≡◌}, List.{List}}
use Rattle.std.specs.Prelude.{ℤ}
use Rattle.c_tell.specs.{Answer.{signed_answer}, Place.{place_after}}
use Rattle.std.specs.Prelude.{Result}
use Rattle.refusal.specs.{declared.Refused.{Refused}}

-- the count of 0 or more, or the refusal's number made negative, and where it points
pub record Told (a : Result ℕ Refused) (place told : List ℕ) (r : ℤ) : Type 0 where
  pub answer_is : r ≡ signed_answer a
  pub place_is : told ≡ place_after a place
