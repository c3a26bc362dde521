-- §11.1: the room of a signed number of 64 bits, for a count.
use Rattle.std.specs.Prelude.{◌<◌, ◌^◌}
use Rattle.std.specs.Prelude.{ℕ, Result, Ok, Err}
use Rattle.refusal.specs.{declared.Refused.{Refused}}

-- a count that a signed number of 64 bits has; of a refusal nothing
unfoldable pub Few : Result ℕ Refused → Type 0
Few (Ok count) = count < 2 ^ 63
Few (Err why) = Unit {0}
