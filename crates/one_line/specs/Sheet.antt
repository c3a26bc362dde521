-- A sheet of one value line, from which the search for the fewest lines takes its case. §6.7: "The case's own counts, spacing, rods and
-- place are not read, nor compared with rodlen; its other values follow document 01's checks for one case". So the sheet's checks of text,
-- names, count of lines and form come first, and 5 and 6 are left to the search.
use Rattle.std.specs.Prelude.{ℕ}
use mathlib.Core.{Bool.{cond}, List.{List, []}}
use lib.{Dec.{eqb, ltb}, ListN.{length, get_or}}
use Rattle.text.specs.Text.{fields_of}
use Rattle.case.specs.{declared.Case.{Case}, Columns.{columns, name_count}}
use Rattle.header.specs.Header.{no_columns, wrong_name, columns_of}
use Rattle.line.specs.Line.{wrong_form, line_case}
use Rattle.line_finding.specs.declared.LineFinding.TheVariants.{Sound, Form}
use Rattle.judgement.specs.Limits.{Limits, today, most_bytes}
use Rattle.judgement.specs.Refusal.{text_refused, name_refused, no_line_refused, many_lines_refused, line_judgement}
use Rattle.judgement.specs.Sheet.{names, value_lines, bad_text}
use Rattle.std.specs.Prelude.{Result, Ok}
use Rattle.refusal.specs.{declared.Refused.{Refused}}

-- today's bytes and one value line: a second is refused with 4 at line 3
abbrev pub one_line : Limits
one_line = record { bytes = most_bytes; lines = 1 }

-- 3 of the value line, whose line is 2
unfoldable pub fields_judged : ℕ → Result (Unit {0}) Refused
fields_judged wrong = line_judgement 2 (Ok tt) (cond (eqb wrong 0) Sound (Form wrong))

-- 4, then the value line
unfoldable pub values_judged : List (List ℕ) → Result (Unit {0}) Refused
values_judged lines =
    cond (eqb (length lines) 0) no_line_refused
    (cond (ltb one_line.lines (length lines)) (many_lines_refused one_line)
    (fields_judged (wrong_form name_count 1 (fields_of (get_or lines 0 [])))))

-- 2, then the value lines
unfoldable pub names_judged : List ℕ → Result (Unit {0}) Refused
names_judged s =
    cond (eqb (wrong_name columns 1 (no_columns columns) (names s)) 0) (values_judged (value_lines s))
    (name_refused (wrong_name columns 1 (no_columns columns) (names s)))

-- 1, then the names
unfoldable pub sheet_judged : List ℕ → Result (Unit {0}) Refused
sheet_judged s = cond (bad_text today s) text_refused (names_judged s)

-- the case of the first value line
unfoldable pub case_in : List ℕ → Case
case_in s = line_case (columns_of columns (names s)) (fields_of (get_or (value_lines s) 0 []))
