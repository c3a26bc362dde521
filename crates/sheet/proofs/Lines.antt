-- A value line of an accepted sheet: its case is within its bounds, and the number of its verdict stands in the table.
use Prim.Native.Nat.{ℕ, ◌<◌}
use mathlib.Core.{Path.{◌≡◌, refl, sym, ap}, List.{List, []}}
use native.Mathlib.Omega.{arith}
use lib.{IntN.{ℤ, pos}, ListN.{length, get_or, length-map}}
use Rattle.text.specs.Text.{fields_of}
use Rattle.case.specs.{declared.Case.{Case}, Case.{case_of}, Columns.{columns}, Bounds.{Bounds}}
use Rattle.header.specs.Header.{columns_of}
use Rattle.line.specs.Line.{line_case}
use Rattle.judgement.specs.Sheet.{names, value_lines}
use Rattle.decision.specs.{declared.Verdict.{TheVariants.{Safe, Unsafe, Undecided}, Verdict}, Verdict.{verdict_number}}
use Rattle.row.specs.{Row.{numbers}, Places.{verdict_place}, Ends.{case_verdict, row_of}}
use Rattle.table_rows.specs.Rows.{Filled}
use Rattle.sheet.specs.{declared.Answer.TheVariants.{Rows}, Answer.{cases}, Table.{row_at, TableAfter, Answered}}
use Rattle.sheet.proofs.{Accepted.{accepted, sound_bounds}, StoredCases.{case_at_lem}}

-- the verdict in row i of a table, by its number
abbrev pub verdict_at : List ℤ → ℕ → ℤ
verdict_at table i = get_or (row_at table i) verdict_place (pos 0)

-- the case of value line i of a sheet
abbrev pub case_at : List ℕ → ℕ → Case
case_at s i = get_or (cases s) i (case_of [])

-- ---- the case of a line of an accepted sheet is within its bounds

module _ {s : List ℕ} {before after : List ℤ} {n : ℕ} (h : Answered s before after (Rows n)) (i : ℕ) (l : i < length (cases s)) where
  pub line_bounds : Bounds (case_at s i)
  unfolding cases
  line_bounds =
      let a = (accepted s (length before) n (sym h.answer_is)).sheet in
      let k : i < length (value_lines s) =
      rw (length-map (value_lines s) (λ line. line_case (columns_of columns (names s)) (fields_of line))) at l in
      rw (case_at_lem (columns_of columns (names s)) (value_lines s) i k) (sound_bounds a.placed (a.lines.line i k))

  pub filled : Filled (cases s) before after
  unfolding TableAfter
  filled = h.table_is

  pub line_verdict : verdict_at after i ≡ pos (verdict_number (case_verdict (case_at s i)))
  unfolding numbers row_of
  line_verdict = ap (λ row. get_or row verdict_place (pos 0)) (filled.parts i l).is

-- ---- a verdict and its number

pub safe_number : (v : Verdict) → pos (verdict_number v) ≡ pos 1 → v ≡ Safe
unfolding verdict_number
safe_number Safe e = refl
safe_number Unsafe e = let z : ◌≡◌ {A = ℕ} 2 1 = cc in absurd (omega arith)
safe_number Undecided e = let z : ◌≡◌ {A = ℕ} 3 1 = cc in absurd (omega arith)

pub number_safe : (v : Verdict) → v ≡ Safe → pos (verdict_number v) ≡ pos 1
unfolding verdict_number
number_safe v e = rw e

pub unsafe_number : (v : Verdict) → pos (verdict_number v) ≡ pos 2 → v ≡ Unsafe
unfolding verdict_number
unsafe_number Safe e = let z : ◌≡◌ {A = ℕ} 1 2 = cc in absurd (omega arith)
unsafe_number Unsafe e = refl
unsafe_number Undecided e = let z : ◌≡◌ {A = ℕ} 3 2 = cc in absurd (omega arith)
