-- §6.5: the margins of a case asked alone.
use Rattle.std.specs.Prelude.{◌≡◌, ℤ, Option, None, Ok, Err}
use Rattle.refusal.specs.declared.Refused.{Refused}
use Rattle.case.specs.declared.Case.{Case}
use Rattle.row.specs.declared.Row.{Row}
use Rattle.margin.specs.Meaning.{Right}
use Rattle.hocsimbur.specs.Asked.{row_answer}

-- right of the exact values where the case has a row, and none where it is refused
pub record MarginsTold (c : Case) (r : Option (ℤ × ℤ)) : Type 0 where
  pub right : (row : Row) → row_answer c ≡ Ok row → Right c r
  pub refused : (why : Refused) → row_answer c ≡ Err why → r ≡ None
