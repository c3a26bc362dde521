-- §6.7: what reading a sheet of one value line promises: its judgement, and where that is sound, the values of its line.
use Rattle.std.specs.Prelude.{ℕ}
use mathlib.Core.{Path.{◌≡◌}, List.{List, []}}
use Rattle.std.specs.Prelude.{length, get_or, Ok}
use Rattle.text.specs.{Text.{fields_of}}
use Rattle.case.specs.Columns.{columns, name_count}
use Rattle.header.specs.Header.{columns_of}
use Rattle.line.specs.{Line.{line_values}, Parts.{LineValues}}
use Rattle.judgement.specs.Sheet.{names, value_lines}
use Rattle.one_line.specs.Sheet.{values_judged, sheet_judged}
use Rattle.std.specs.Prelude.{Result, Ok}
use Rattle.refusal.specs.{declared.Refused.{Refused}}

-- the value lines, each value at the index of its column's name
pub record ValuesRead (lines : List (List ℕ)) (order values : List ℕ) (r : Result (Unit {0}) Refused) : Type 0 where
  pub answer_is : r ≡ values_judged lines
  pub count : length values ≡ name_count
  pub line_read : r ≡ Ok tt → LineValues name_count order (get_or lines 0 []) (Ok tt) values

-- the sheet, its values in the order of the names
pub record SheetRead (s values : List ℕ) (r : Result (Unit {0}) Refused) : Type 0 where
  pub answer_is : r ≡ sheet_judged s
  pub count : length values ≡ name_count
  pub values_are : r ≡ Ok tt → values ≡ line_values (columns_of columns (names s)) (fields_of (get_or (value_lines s) 0 []))
