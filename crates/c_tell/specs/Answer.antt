-- The answer as one signed number. §11.1, §11.2: "The answer is a signed number, the count of rows, or the refusal's number made negative".
use Rattle.std.specs.Prelude.{ℤ, pos, neg_ℤ}
use Rattle.std.specs.Prelude.{ℕ, Result, Ok, Err}
use Rattle.refusal.specs.{declared.Refused.{Refused}}

unfoldable pub signed_answer : Result ℕ Refused → ℤ
signed_answer (Ok count) = pos count
signed_answer (Err why) = neg_ℤ (pos why.0)
