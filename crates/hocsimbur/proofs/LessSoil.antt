-- §10.3, for the answers of `row`: of two cases that differ in soil alone, apart from station and season, where the one with the higher
-- resistivity is answered safe the other is never answered unsafe.
use mathlib.Core.Path.{◌≡◌}
use Rattle.case.specs.declared.Case.{Case}
use Rattle.decision.specs.declared.Verdict.TheVariants.{Safe, Unsafe}
use Rattle.row.{specs.{declared.Row.{Row}, LessSoil.{LessSoil}}, proofs.LessSoil.{drier_decides}}
use Rattle.hocsimbur.specs.{Asked.{RowAnswered, AnsweredWith}}
use Rattle.hocsimbur.proofs.Answers.{row_says}
use Rattle.std.specs.Prelude.{Result, Ok}
use Rattle.refusal.specs.{declared.Refused.{Refused}}

pub drier_row_decides : {c d : Case} {r : Row} {a : Result Row Refused} → RowAnswered c (Ok r) → r.verdict ≡ Safe → LessSoil c d
    → RowAnswered d a → ¬ AnsweredWith Unsafe a
drier_row_decides {c} {d} h e l a u =
    let says = row_says h e in
    let other : RowAnswered d (Ok u.row) = (rw u.is at a) in
    let other-says = row_says other u.verdict in
    drier_decides says.0 other-says.0 l says.1 other-says.1
