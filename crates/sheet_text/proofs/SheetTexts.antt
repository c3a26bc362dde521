-- The text of a sheet's rows: how long it is at most, and what the table says of it.
use Prim.Native.Nat.{ℕ, ◌*◌, ◌≤◌}
use mathlib.Core.{Path.{◌≡◌}, List.{List, map}}
use native.Mathlib.Omega.{arith}
use lib.{IntN.{ℤ}, ListN.{length, length-map}}
use Rattle.tables.specs.Parts.{parts_of}
use Rattle.case.specs.Columns.{columns}
use Rattle.judgement.specs.{Limits.{most_lines}, Sheet.{judgement}}
use Rattle.row.specs.{declared.Row.{Row}, Row.{numbers, row_length, row_length_lem}, Ends.{row_of}}
use Rattle.table_rows.specs.Rows.{Filled}
use Rattle.sheet.specs.{declared.Answer.{TheVariants.{Rows, Refused}, Answer}, Answer.{cases}, Table.{TableAfter, Answered}}
use Rattle.stations.specs.Answer.{sheet_rows}
use Rattle.fields.{specs.Refusal.{refused_text, unless_refused}, proofs.Refusals.{answer_fits}}
use Rattle.row_text.{specs.{declared.Shown.{Shown}, Shown.{lines_after}, Room.{name_bytes, text_room}}, proofs.Fits.{Width, lines_fit}}
use Rattle.sheet_text.specs.Shown.{shown_text}
use Rattle.sheet_text.proofs.{TableRows.{table_rows}, Judged.{rows_judged, refusal_judged, case_count, count_within}}
use Rattle.std.specs.Prelude.{Ok}

row_width : (r : Row) → Width (length (numbers r))
row_width r = record { some = omega (arith, row_length_lem r); most = omega (arith, row_length_lem r) }

-- an accepted sheet has no more rows than the limit
pub rows_few : (s : List ℕ) (n : ℕ) → judgement columns s ≡ Ok n → length (sheet_rows s) ≤ most_lines
rows_few s n e = omega (arith, length-map (cases s) row_of, case_count s n e, count_within s n e)

module _ (names : List ℕ) (what : Shown) (s : List ℕ) where
  pub shown_fits : length names ≤ name_bytes → length (shown_text names what s) ≤ text_room
  unfolding shown_text
  shown_fits h =
      answer_fits text_room (judgement columns s) _ (omega arith)
      (λ n e. lines_fit what numbers row_width names (sheet_rows s) h (rows_few s n e))

  module _ {before after : List ℤ} {a : Answer} (h : Answered s before after a) (enough : row_length * most_lines ≤ length before) where
    pub refusal_is : {number line column : ℕ} → a ≡ Refused number line column → shown_text names what s ≡ refused_text number line column
    unfolding shown_text unless_refused
    refusal_is e = rw (refusal_judged s (length before) enough h.answer_is e)

    module _ {n : ℕ} (e : a ≡ Rows n) where
      lines : judgement columns s ≡ Ok n
      lines = rows_judged s (length before) enough h.answer_is e

      filled : Filled (cases s) before after
      unfolding TableAfter
      filled = rw e at h.table_is

      pub rows_within : n * row_length ≤ length after
      rows_within = omega (arith, count_within s n lines, filled.size)

      pub rows_are : shown_text names what s ≡ lines_after names what (parts_of row_length n after)
      unfolding shown_text unless_refused
      rows_are =
          let parts : parts_of row_length n after ≡ map numbers (sheet_rows s) = rw (← case_count s n lines) (table_rows (cases s) filled) in
          rw (lines, parts)

      pub rows_room : {room : ℕ} → length names ≤ name_bytes → text_room ≤ room
          → length (lines_after names what (parts_of row_length n after)) ≤ room
      rows_room f r = rw (← rows_are) (omega (arith, shown_fits f))
