-- The text of a sheet's rows (§3.1) as one loop writes it.
use Rattle.std.specs.Prelude.{ℕ, List, map}
use Rattle.case.specs.Columns.{columns}
use Rattle.judgement.specs.Sheet.{judgement}
use Rattle.row.specs.Row.{numbers}
use Rattle.stations.specs.Answer.{sheet_rows}
use Rattle.row_text.specs.{declared.Shown.{Shown}, Shown.{lines_after}}
use Rattle.fields.specs.Refusal.{unless_refused}

-- of a sheet's rows, or the refusal
unfoldable pub shown_text : List ℕ → Shown → List ℕ → List ℕ
shown_text names what s = unless_refused (judgement columns s) (lines_after names what (map numbers (sheet_rows s)))
