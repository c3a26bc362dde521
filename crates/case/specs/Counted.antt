-- §2.1: a count, or a refusal with number, line and column.
use Rattle.std.specs.Prelude.{ℕ, Result, Ok, Err}
use Rattle.refusal.specs.{declared.Refused.{Refused}, Refused.{refuse}}

-- the first of two answers if it is a refusal, or else the second
unfoldable pub refused_or : {A B : Type 0} → Result A Refused → Result B Refused → Result B Refused
refused_or (Err why) next = Err why
refused_or (Ok x) next = next
