-- The text of a sheet's stations: how long it is at most, and what the summary table says of it.
use Prim.Native.Nat.{ℕ, suc, ◌+◌, ◌*◌, ◌≤◌}
use mathlib.Core.{Path.{◌≡◌, refl, sym, ap, ◌∙◌}, Bool.{Bool, true, false, cond}, List.{List, [], ◌∷◌, ◌++◌, map, map-id}}
use native.Mathlib.Omega.{arith}
use lib.{IntN.{ℤ}, ListN.{length, drop, length-append, length-map}, Seq.{take_at, drop_at}}
use borrow.Author.Tests.{le-ltb}
use Rattle.text.{specs.Text.{bytes}, proofs.Clash.{clash}}
use Rattle.tables.specs.Parts.{parts_of}
use Rattle.writing.specs.{Decimal.{signed}, Text.{more_fields, parted, ended}}
use Rattle.case.specs.Columns.{columns}
use Rattle.judgement.specs.{Limits.{most_lines}, Sheet.{judgement}}
use Rattle.row.specs.{declared.Row.{Row}, Row.{row_length}}
use Rattle.sheet.specs.{declared.Answer.{Answer}, Answer.{answer}}
use Rattle.sheet.specs.declared.Answer.TheVariants as sheet
use Rattle.station_sums.specs.Summary.{among, by_appearance, stations_of, stations, rows_of, station_length, station_numbers, summary_of, filled}
use Rattle.stations.specs.Answer.{sheet_rows, answer_after, summary_answer, Summarised, TablesAfter, SummaryAnswered}
use Rattle.stations.proofs.Within.{summary_within}
use Rattle.fields.{specs.{Refusal.{refused_text, unless_refused}, Listed.{listed}}, proofs.Refusals.{answer_fits}}
use Rattle.row_text.specs.declared.Shown.TheVariants as shown
use Rattle.row_text.{specs.{Shown.{lines_after}, Room.{text_room}}, proofs.{Fits.{Width, lines_fit}, Texts.{listed_same, numbers_fields}}}
use Rattle.sheet_text.specs.Texts.{summary_names, summary_text}
use Rattle.sheet_text.proofs.{Judged.{told, answer_told}, SheetTexts.{rows_few}}
use Rattle.std.specs.Prelude.{Result, Ok, Err}
use Rattle.refusal.specs.{declared.Refused.{Refused}, Refused.{refuse}}
use Rattle.stations.specs.declared.Counts.{Counts}
use Rattle.stations.{specs.Answer.{counts}, proofs.Within.{same_counts}}

-- ---- no more stations than rows

found_few : (found xs : List ℤ) → length (by_appearance found xs) ≤ length found + length xs
unfolding by_appearance
found_few found [] = omega arith
found_few found (x ∷ xs) = go (among x found) (found_few (cond (among x found) found (found ++ (x ∷ []))) xs)
  where
    go : (b : Bool) → length (by_appearance (cond b found (found ++ (x ∷ []))) xs) ≤ length (cond b found (found ++ (x ∷ []))) + length xs
        → length (by_appearance (cond b found (found ++ (x ∷ []))) xs) ≤ length found + suc (length xs)
    go true h = omega arith
    go false h = omega (arith, length-append found (x ∷ []))

stations_few : (rows : List Row) → length (stations rows) ≤ length rows
unfolding stations
stations_few rows = omega (arith, found_few [] (stations_of rows), length-map rows (λ r. r.station))

-- ---- the answer of the summary in tables with room for the most rows and stations, by the judgement of the sheet

abbrev summed_of : ℕ → Result ℕ Refused → Result Counts Refused
summed_of m (Ok n) = Ok (counts n m)
summed_of m (Err why) = Err why

module _ (s : List ℕ) (rowsRoom room : ℕ) (rowsEnough : row_length * most_lines ≤ rowsRoom) (enough : station_length * most_lines ≤ room) where
  abbrev count : ℕ
  count = length (stations (sheet_rows s))

  summed_is : summary_answer s rowsRoom room ≡ summed_of count (judgement columns s)
  unfolding summary_answer answer_after
  summed_is = go (answer s rowsRoom) (answer_told s rowsRoom rowsEnough)
    where
      go : (a : Answer) → told a ≡ judgement columns s → answer_after room (sheet_rows s) a ≡ summed_of count (judgement columns s)
      go (sheet.Refused number line column) e = rw (← e)
      go (sheet.Rows n) e = rw (← e, le-ltb room (station_length * count) (omega (arith, stations_few (sheet_rows s), rows_few s n (sym e))))

-- ---- the parts of the summary table

parts_filled : {A : Type 0} (f : A → List ℤ) → ((a : A) → length (f a) ≡ station_length) → (xs : List A) (before : List ℤ)
    → parts_of station_length (length xs) (filled (map f xs) before) ≡ map f xs
unfolding parts_of filled
parts_filled f six [] before = refl
parts_filled f six (a ∷ xs) before =
    let rest = filled (map f xs) (drop station_length before) in
    rw (take_at (f a) rest station_length (six a), drop_at (f a) rest station_length (six a))
    (ap (λ (ls : List (List ℤ)). f a ∷ ls) (parts_filled f six xs (drop station_length before)))

-- the numbers of a station among some rows
abbrev numbers_of : List Row → ℤ → List ℤ
numbers_of rows station = station_numbers station (rows_of station rows)

six_numbers : (rows : List Row) (station : ℤ) → length (numbers_of rows station) ≡ station_length
unfolding station_numbers
six_numbers rows station = refl

-- ---- the text

abbrev pub summary_line : List ℕ
summary_line = bytes "station,seasons,safe,unsafe,undecided,highest_mesh_season\n"

summary_names_lem : ended (parted summary_names) ≡ summary_line
unfolding more_fields parted ended summary_names
summary_names_lem = refl

module _ (s : List ℕ) where
  abbrev station_rows : List (List ℤ)
  station_rows = summary_of (sheet_rows s)

  abbrev station_count : ℕ
  station_count = length (stations (sheet_rows s))

  summary_shown : summary_text s ≡ unless_refused (judgement columns s) (lines_after summary_line shown.Numbers station_rows)
  unfolding summary_text
  summary_shown =
      rw (← summary_names_lem, ← listed_same shown.Numbers (λ zs. zs) (map signed) numbers_fields summary_names station_rows, map-id station_rows)

  pub summary_fits : length (summary_text s) ≤ text_room
  unfolding summary_of
  summary_fits =
      rw summary_shown
      (answer_fits text_room (judgement columns s) _ (omega arith)
      (λ n e. lines_fit shown.Numbers (numbers_of (sheet_rows s)) width summary_line (stations (sheet_rows s)) (omega arith)
      (omega (arith, stations_few (sheet_rows s), rows_few s n e))))
    where
      width : (station : ℤ) → Width (length (numbers_of (sheet_rows s) station))
      width station = let e = six_numbers (sheet_rows s) station in record { some = omega (arith, e); most = omega (arith, e) }

  module _ {rowsBefore rowsAfter before after : List ℤ} {a : Result Counts Refused} (h : SummaryAnswered s rowsBefore rowsAfter before after a)
      (rowsEnough : row_length * most_lines ≤ length rowsBefore) (enough : station_length * most_lines ≤ length before) where
    judged_by_lem : {b : Result Counts Refused} → a ≡ b → b ≡ summed_of station_count (judgement columns s)
    judged_by_lem e = sym e ∙ h.answer_is ∙ summed_is s (length rowsBefore) (length before) rowsEnough enough

    pub summary_refused_lem : {number line column : ℕ} → a ≡ refuse number line column → summary_text s ≡ refused_text number line column
    unfolding summary_text unless_refused
    summary_refused_lem {number} {line} {column} e =
        ap (λ j. unless_refused j (listed summary_names (map (map signed) station_rows))) (go (judgement columns s) (judged_by_lem e))
      where
        go : (j : Result ℕ Refused) → refuse number line column ≡ summed_of station_count j → j ≡ refuse number line column
        go (Ok n) q = clash cc
        go (Err why) q = cc

    module _ {n m : ℕ} (e : a ≡ Ok (counts n m)) where
      both_counts : (j : Result ℕ Refused) → Ok (counts n m) ≡ summed_of station_count j → (j ≡ Ok n) × (m ≡ station_count)
      both_counts (Ok k) q = let s = same_counts q in (ap Ok (sym s.0), s.1)
      both_counts (Err why) q = clash cc

      tables : Summarised s n rowsBefore rowsAfter before after
      unfolding TablesAfter
      tables = rw e at h.tables_are

      pub stations_within : m * station_length ≤ length after
      stations_within = omega (arith, summary_within h e)

      pub stations_are : summary_text s ≡ lines_after summary_line shown.Numbers (parts_of station_length m after)
      unfolding unless_refused summary_of
      stations_are =
          let q = both_counts (judgement columns s) (judged_by_lem e) in
          let parts = parts_filled (numbers_of (sheet_rows s)) (six_numbers (sheet_rows s)) (stations (sheet_rows s)) before in
          summary_shown ∙ rw (q.0, q.1, tables.summary, parts)

      pub stations_room : {room : ℕ} → text_room ≤ room
          → length (lines_after summary_line shown.Numbers (parts_of station_length m after)) ≤ room
      stations_room r = rw (← stations_are) (omega (arith, summary_fits))
