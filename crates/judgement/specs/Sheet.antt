-- The judgement of every sheet of a form within some limits: the count of its value lines, or a refusal. §1.1, §2.1, §2.2: "The order is 1, 2,
-- 4; then line by line 3, 5, 6, 7".
use Rattle.std.specs.Prelude.{ℕ, suc, ◌-◌}
use mathlib.Core.{Bool.{Bool, cond, not, ◌||◌}, List.{List, [], ◌∷◌}}
use lib.{ListN.{length, get_or, drop}, Dec.{ltb, eqb}}
use Rattle.text.specs.Text.{lines_of, fields_of}
use Rattle.case.specs.Columns.{Form}
use Rattle.header.specs.Header.{no_columns, wrong_name, columns_of}
use Rattle.line.specs.Line.{line_values}
use Rattle.line_finding.specs.Findings.{line_finding}
use Rattle.judgement.specs.Limits.{Limits, today}
use Rattle.judgement.specs.Refusal.{text_refused, name_refused, no_line_refused, many_lines_refused, line_judgement}
use Rattle.std.specs.Prelude.{Result, Ok}
use Rattle.refusal.specs.{declared.Refused.{Refused}}

-- "Its first line holds names, and each later line holds values in that order."
unfoldable pub names : List ℕ → List (List ℕ)
names s = fields_of (get_or (lines_of s) 0 [])

unfoldable pub value_lines : List ℕ → List (List ℕ)
value_lines s = drop 1 (lines_of s)

-- "sheet empty, over 16,384 bytes, or last byte not 10"; today over 65,536 bytes (§1.5)
unfoldable pub bad_text : Limits → List ℕ → Bool
bad_text limits s = eqb (length s) 0 || ltb limits.bytes (length s) || not (eqb (get_or s (length s - 1) 0) 10)

module _ (form : Form) where
  -- line by line from line n on, after the values of earlier lines; `sound` is the judgement where nothing is wrong with any line
  unfoldable pub lines_judgement : List ℕ → List (List ℕ) → ℕ → Result ℕ Refused → List (List ℕ) → Result ℕ Refused
  lines_judgement at earlier n sound [] = sound
  lines_judgement at earlier n sound (line ∷ lines) =
      line_judgement n (lines_judgement at (line_values at (fields_of line) ∷ earlier) (suc n) sound lines)
      (line_finding form at earlier (fields_of line))

module _ (form : Form) (limits : Limits) where
  -- 4, then the lines
  unfoldable pub values_judgement : List ℕ → List (List ℕ) → Result ℕ Refused
  values_judgement at lines =
      cond (eqb (length lines) 0) no_line_refused
      (cond (ltb limits.lines (length lines)) (many_lines_refused limits) (lines_judgement form at [] 2 (Ok (length lines)) lines))

  -- 2, then the values
  unfoldable pub names_judgement : List ℕ → Result ℕ Refused
  names_judgement s =
      cond (eqb (wrong_name form 1 (no_columns form) (names s)) 0) (values_judgement (columns_of form (names s)) (value_lines s))
      (name_refused (wrong_name form 1 (no_columns form) (names s)))

  -- 1, then the names
  unfoldable pub judgement_within : List ℕ → Result ℕ Refused
  judgement_within s = cond (bad_text limits s) text_refused (names_judgement s)

-- within today's limits
unfoldable pub judgement : Form → List ℕ → Result ℕ Refused
judgement form s = judgement_within form today s
