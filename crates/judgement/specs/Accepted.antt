-- What holds of a sheet that is judged to have n value lines within some limits (§1.1–§1.6): proved in proofs/Accepted.antt.
use Rattle.std.specs.Prelude.{ℕ, ◌-◌, ◌≤◌, ◌<◌}
use mathlib.Core.{Path.{◌≡◌}, Bool.{false}, List.{List, []}}
use Rattle.std.specs.Prelude.{length, get_or}
use Rattle.text.specs.Text.{fields_of}
use Rattle.case.specs.declared.Finding.TheVariants as found
use Rattle.case.specs.{Columns.{Form}, Check.{finding}, Bounds.{Placed}}
use Rattle.header.specs.Header.{no_columns, wrong_name, columns_of}
use Rattle.line.specs.Line.{wrong_form, line_values}
use Rattle.judgement.specs.{Limits.{Limits, today}, Sheet.{names, value_lines, bad_text, lines_judgement}}
use Rattle.std.specs.Prelude.{Ok}

-- a text that is not "empty, over" the most bytes, "or last byte not 10"
pub record RightText (limits : Limits) (s : List ℕ) : Type 0 where
  pub some : 1 ≤ length s
  pub most : length s ≤ limits.bytes
  pub last : get_or s (length s - 1) 0 ≡ 10

-- a line of sound form with sound values
pub record SoundLine (form : Form) (at line : List ℕ) : Type 0 where
  pub form_sound : wrong_form (length form) 1 (fields_of line) ≡ 0
  pub values_sound : finding form at (line_values at (fields_of line)) ≡ found.Sound

pub record SoundLines (form : Form) (at : List ℕ) (lines : List (List ℕ)) : Type 0 where
  pub line : (i : ℕ) → i < length lines → SoundLine form at (get_or lines i [])

pub record AcceptedWithin (form : Form) (limits : Limits) (s : List ℕ) (n : ℕ) : Type 0 where
  pub text : bad_text limits s ≡ false
  pub names_sound : wrong_name form 1 (no_columns form) (names s) ≡ 0
  pub placed : Placed (length form) (columns_of form (names s))
  pub count : n ≡ length (value_lines s)
  pub some : 1 ≤ n
  pub most : n ≤ limits.lines
  pub lines : SoundLines form (columns_of form (names s)) (value_lines s)
  pub judged : lines_judgement form (columns_of form (names s)) [] 2 (Ok n) (value_lines s) ≡ Ok n

-- within today's limits
abbrev pub Accepted : Form → List ℕ → ℕ → Type 0
Accepted form s n = AcceptedWithin form today s n
