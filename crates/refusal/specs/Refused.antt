-- §2.1: an answer that is a refusal, with number, line and column.
use Rattle.std.specs.Prelude.{ℕ, Result, Err}
use Rattle.refusal.specs.declared.Refused.{Refused}

abbrev pub refuse : {A : Type 0} → ℕ → ℕ → ℕ → Result A Refused
refuse number line column = Err (number, line, column)
