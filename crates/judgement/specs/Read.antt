-- What reading a sheet promises: its judgement (§2.2), and where it counts value lines, their values in a store.
use Rattle.std.specs.Prelude.{ℕ, ◌*◌, ◌≤◌, ◌<◌}
use mathlib.Core.{Path.{◌≡◌}, List.{List, []}}
use Rattle.std.specs.Prelude.{length, get_or}
use Rattle.text.specs.Text.{fields_of}
use Rattle.tables.specs.Parts.{part_at, Written}
use Rattle.case.specs.Columns.{Form}
use Rattle.header.specs.Header.{columns_of}
use Rattle.line.specs.Line.{line_values}
use Rattle.line_finding.specs.{declared.LineFinding.{LineFinding}, Parts.{Checks}}
use Rattle.judgement.specs.Limits.{today, most_lines}
use Rattle.judgement.specs.Sheet.{names, value_lines, lines_judgement, values_judgement, judgement}
use Rattle.std.specs.Prelude.{Result, Ok}
use Rattle.refusal.specs.{declared.Refused.{Refused}}

-- the values of some lines stand one after the other in a store, each line's in the order of the form
abbrev pub Stored : Form → List ℕ → List (List ℕ) → List ℕ → Type 0
Stored form at lines store = (i : ℕ) → i < length lines → part_at (length form) store i ≡ line_values at (fields_of (get_or lines i []))

-- a store has room for the values of some lines, or of as many as a sheet may have
pub record Room (form : Form) (lines : List (List ℕ)) (store : List ℕ) : Type 0 where
  pub enough : {n : ℕ} → n ≤ length lines → n ≤ most_lines → length form * n ≤ length store

-- what the checks of a line find, with its values as part n of a store
pub record LineStored (form : Form) (at : List ℕ) (earlier : List (List ℕ)) (line : List ℕ) (n : ℕ) (before after : List ℕ)
    (found : LineFinding) : Type 0 where
  pub row : List ℕ
  pub checks : Checks form at earlier line found row
  pub written : Written (length form) n row before after

-- value lines with the columns of their names, judged line by line
pub record LinesRead (form : Form) (at : List ℕ) (lines : List (List ℕ)) (sound : Result ℕ Refused) (before after : List ℕ) (r : Result ℕ Refused) : Type
    0 where
  pub answer_is : r ≡ lines_judgement form at [] 2 sound lines
  pub size : length after ≡ length before
  pub stored : (n : ℕ) → r ≡ Ok n → Stored form at lines after

-- the same with the count of lines
pub record ValuesRead (form : Form) (at : List ℕ) (lines : List (List ℕ)) (before after : List ℕ) (r : Result ℕ Refused) : Type 0 where
  pub answer_is : r ≡ values_judgement form today at lines
  pub size : length after ≡ length before
  pub stored : (n : ℕ) → r ≡ Ok n → Stored form at lines after

-- a sheet
pub record Read (form : Form) (s before after : List ℕ) (r : Result ℕ Refused) : Type 0 where
  pub answer_is : r ≡ judgement form s
  pub size : length after ≡ length before
  pub stored : (n : ℕ) → r ≡ Ok n → Stored form (columns_of form (names s)) (value_lines s) after
