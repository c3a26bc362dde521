-- The cases of stored values: those of the sheet that they were read from.
use Prim.Native.Nat.{ℕ, zero, suc, ◌<◌}
use mathlib.Core.{Path.{◌≡◌, refl, sym, ap, ◌∙◌}, List.{List, [], ◌∷◌, map}}
use native.Mathlib.Omega.{arith}
use lib.ListN.{length, get_or}
use Rattle.text.specs.Text.{fields_of}
use Rattle.tables.specs.Parts.{part_at, parts_of}
use Rattle.case.specs.{declared.Case.{Case}, Case.{case_of}, Columns.{columns, name_count, name_count_lem}}
use Rattle.header.specs.Header.{columns_of}
use Rattle.line.specs.Line.{line_values, line_case}
use Rattle.judgement.{specs.{Sheet.{names, value_lines}, Read.{Stored}}, proofs.StoredLines.{stored_parts}}
use Rattle.judgement.specs.Accepted as judged
use Rattle.table_rows.specs.Rows.{stored_cases, StoredBounds}
use Rattle.sheet.specs.Answer.{cases}
use Rattle.sheet.proofs.Accepted.{sound_bounds}

-- ---- the case of line i of a sheet

pub case_at_lem : (at : List ℕ) (ls : List (List ℕ)) (n : ℕ) → n < length ls
    → get_or (map (λ line. line_case at (fields_of line)) ls) n (case_of []) ≡ line_case at (fields_of (get_or ls n []))
case_at_lem at [] n h = absurd (omega arith)
case_at_lem at (l ∷ ls) zero h = refl
case_at_lem at (l ∷ ls) (suc n) h = case_at_lem at ls n (omega arith)

-- ---- the values of an accepted sheet

cases_map : (at : List ℕ) (ls : List (List ℕ))
    → map case_of (map (λ line. line_values at (fields_of line)) ls) ≡ map (λ line. line_case at (fields_of line)) ls
unfolding line_case
cases_map at [] = refl
cases_map at (l ∷ ls) = ap (λ (m : List Case). case_of (line_values at (fields_of l)) ∷ m) (cases_map at ls)

module _ {s : List ℕ} {n : ℕ} (values : List ℕ) (a : judged.Accepted columns s n)
    (stored : Stored columns (columns_of columns (names s)) (value_lines s) values) where
  part : (i : ℕ) → i < n → part_at name_count values i ≡ line_values (columns_of columns (names s)) (fields_of (get_or (value_lines s) i []))
  part i h = rw (← name_count_lem) (stored i (omega (arith, a.count)))

  pub stored_cases_lem : stored_cases values n ≡ cases s
  unfolding stored_cases cases
  stored_cases_lem =
      ap (λ (k : ℕ). map case_of (parts_of k n values)) (sym name_count_lem) ∙ ap (map case_of) (stored_parts values a stored)
      ∙ cases_map (columns_of columns (names s)) (value_lines s)

  pub stored_bounds : StoredBounds values n
  unfolding line_case
  stored_bounds i h = rw (part i h) (sound_bounds a.placed (a.lines.line i (omega (arith, a.count))))
