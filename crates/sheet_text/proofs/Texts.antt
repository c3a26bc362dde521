-- The text of each program that prints rows is what the loop over a table's rows writes.
use Prim.Native.Nat.{ℕ}
use mathlib.Core.{Path.{◌≡◌, ap}, List.{List}}
use Rattle.writing.specs.Text.{parted, ended}
use Rattle.case.specs.Columns.{columns}
use Rattle.judgement.specs.Sheet.{judgement}
use Rattle.row.specs.{declared.Row.{Row}, Row.{numbers}}
use Rattle.stations.specs.Answer.{sheet_rows}
use Rattle.row_text.specs.{declared.Shown.{Shown, TheVariants.{Verdict, Numbers, Margins}}, Verdict.{verdict_names, verdict_fields}}
use Rattle.row_text.specs.{Rows.{row_names, row_fields}, Margins.{margin_names, margin_fields}, Shown.{shown_fields}}
use Rattle.row_text.proofs.Texts.{verdict_line, row_line, margin_line, verdict_names_lem, row_names_lem, margin_names_lem, listed_same, verdict_fields_lem}
use Rattle.row_text.proofs.Texts.{row_fields_lem, margin_fields_lem}
use Rattle.fields.specs.Refusal.{unless_refused}
use Rattle.sheet_text.specs.{Texts.{verdict_text, rows_text, margins_text, listed_sheet}, Shown.{shown_text}}

-- the fields of a row are those that the loop writes, and the line of names is the one that it is handed
text_shown : (what : Shown) (fields : Row → List (List ℕ)) → ((r : Row) → shown_fields what (numbers r) ≡ fields r)
    → (names : List (List ℕ)) {line : List ℕ} → ended (parted names) ≡ line → (s : List ℕ)
    → listed_sheet names fields s ≡ shown_text line what s
unfolding shown_text
text_shown what fields same names line_is s =
    rw (← line_is) (ap (unless_refused (judgement columns s)) (rw (listed_same what numbers fields same names (sheet_rows s))))

pub verdict_shown : (s : List ℕ) → verdict_text s ≡ shown_text verdict_line Verdict s
unfolding verdict_text
verdict_shown = text_shown Verdict verdict_fields verdict_fields_lem verdict_names verdict_names_lem

pub rows_shown : (s : List ℕ) → rows_text s ≡ shown_text row_line Numbers s
unfolding rows_text
rows_shown = text_shown Numbers row_fields row_fields_lem row_names row_names_lem

pub margins_shown : (s : List ℕ) → margins_text s ≡ shown_text margin_line Margins s
unfolding margins_text
margins_shown = text_shown Margins margin_fields margin_fields_lem margin_names margin_names_lem
