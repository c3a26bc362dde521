-- What a `?` hands on of a refusal: the same refusal.
use mathlib.Core.Path.{◌≡◌, ap}
use Rattle.std.specs.Prelude.{Result, Ok, Err, IsErrAnd}
use Rattle.refusal.specs.declared.Refused.{Refused}

pub passed_on : {A : Type 0} {why : Refused} (r : Result A Refused) → IsErrAnd r (λ other. other ≡ why) → r ≡ Err why
passed_on (Ok x) h = absurd h
passed_on (Err other) h = ap Err h
