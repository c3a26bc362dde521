-- The claim about a sheet and its two tables, from the rows computed in a separate table, the summary, and the room of both tables.
use Prim.Native.Nat.{ℕ, ◌*◌, ◌≤◌, ◌<◌}
use mathlib.Core.{Path.{◌≡◌, refl, sym, ap, ◌∙◌}, List.{List, [], ◌++◌}}
use native.Mathlib.Omega.{arith}
use lib.{IntN.{ℤ}, ListN.{length, get_or, take, drop, length-append, length-drop, length-map}, Seq.{length-take-le, take_at, drop_at}}
use borrow.Author.Tests.{lt-ltb, le-ltb}
use Rattle.text.specs.Text.{fields_of}
use Rattle.tables.proofs.Writing.{part_of_front}
use Rattle.case.specs.{declared.Case.{Case}, Columns.{columns}}
use Rattle.header.specs.Header.{columns_of}
use Rattle.line.specs.Line.{line_case}
use Rattle.judgement.specs.{Limits.{most_lines}, Sheet.{names, value_lines}}
use Rattle.row.specs.Row.{row_length}
use Rattle.table_rows.specs.Rows.{Filled}
use Rattle.sheet.{specs.{declared.Answer.{Answer}, Answer.{cases, answer}, Table.{row_at, TableAfter, Answered}}, proofs.Accepted.{accepted}}
use Rattle.sheet.proofs.AnyRoom.{refused_anywhere, count_most, short_there, rows_there}
use Rattle.sheet.specs.declared.Answer.TheVariants as sheet
use Rattle.station_sums.specs.{Summary.{by_appearance, stations, station_length, summary_of, filled}, declared.Sums.{Sums}}
use Rattle.station_sums.specs.Sums.{none, sums_at, sixes}
use Rattle.appearance.specs.Places.{station_column, Places}
use Rattle.stations.specs.Answer.{sheet_rows, summary_refused, answer_after, summary_answer, TablesAfter, SummaryAnswered}
use Rattle.stations.proofs.StationSums.{stations_found, summary_put}
use Rattle.std.specs.Prelude.{Ok}
use Rattle.refusal.specs.{Refused.{refuse}}
use Rattle.stations.specs.Answer.{counts}

-- ---- rows copied from one table into another

module _ (cs : List Case) {zeros own : List ℤ} (before : List ℤ) (f : Filled cs zeros own) (enough : row_length * length cs ≤ length own)
    (room : row_length * length cs ≤ length before) where
  abbrev copied : List ℤ
  copied = take (row_length * length cs) own ++ drop (row_length * length cs) before

  front : length (take (row_length * length cs) own) ≡ row_length * length cs
  front = length-take-le (row_length * length cs) own enough

  row_copied : (i : ℕ) → i < length cs → row_at copied i ≡ row_at own i
  row_copied i h =
      sym (part_of_front row_length (row_length * i) (row_length * length cs) copied (omega arith))
      ∙ ap (λ (l : List ℤ). take row_length (drop (row_length * i) l))
      (take_at (take (row_length * length cs) own) (drop (row_length * length cs) before) (row_length * length cs) front)
      ∙ part_of_front row_length (row_length * i) (row_length * length cs) own (omega arith)

  rows_copied : Filled cs before copied
  rows_copied =
      record {
        size =
            length-append (take (row_length * length cs) own) (drop (row_length * length cs) before)
            ∙ omega (arith, front, length-drop (row_length * length cs) before);
        parts = λ i h. rw (row_copied i h) (f.parts i h);
        rest = drop_at (take (row_length * length cs) own) (drop (row_length * length cs) before) (row_length * length cs) front;
      }

-- ---- the sheet's own question answered with a count of rows, in a table with room for the greatest number of rows

module _ {s : List ℕ} {zeros own : List ℤ} {r : Answer} {n : ℕ} (told : Answered s zeros own r) (q : r ≡ sheet.Rows n)
    (whole : length zeros ≡ row_length * most_lines) where
  a : Answered s zeros own (sheet.Rows n)
  a = rw q at told

  enough : row_length * most_lines ≤ length zeros
  enough = omega arith

  rows_filled : Filled (cases s) zeros own
  unfolding TableAfter
  rows_filled = a.table_is

  rows_count : n ≡ length (cases s)
  unfolding cases
  rows_count =
      (accepted s (length zeros) n (sym a.answer_is)).sheet.count
      ∙ sym (length-map (value_lines s) (λ line. line_case (columns_of columns (names s)) (fields_of line)))

  pub rows_most : n ≤ most_lines
  rows_most = count_most s (length zeros) enough a.answer_is

  pub rows_within : row_length * n ≤ length own
  rows_within = omega (arith, rows_most, rows_filled.size)

  -- what the question answers in another table
  pub short_elsewhere : (room : ℕ) → room < row_length * n → sheet.Refused 8 0 0 ≡ answer s room
  short_elsewhere = short_there s (length zeros) enough a.answer_is

  pub rows_elsewhere : (room : ℕ) → row_length * n ≤ room → sheet.Rows n ≡ answer s room
  rows_elsewhere = rows_there s (length zeros) enough a.answer_is

  -- the stations found are those of the rows
  pub stations_are : by_appearance [] (station_column own 0 n) ≡ stations (sheet_rows s)
  stations_are = ap (λ (k : ℕ). by_appearance [] (station_column own 0 k)) rows_count ∙ stations_found (cases s) own rows_filled.parts

  pub stations_count : {known : List ℤ} {places : List ℕ} {count : ℕ} → Places own n known places count
      → count ≡ length (stations (sheet_rows s))
  stations_count {known} {places} {count} p =
      sym (length-take-le count known (omega (arith, p.most, p.known_size, rows_most))) ∙ ap length (p.known_are ∙ stations_are)

  -- the rows copied into a table are the answer there
  pub copied_answered : {before after : List ℤ} → row_length * n ≤ length before
      → after ≡ take (row_length * n) own ++ drop (row_length * n) before → Answered s before after (sheet.Rows n)
  unfolding TableAfter
  copied_answered {before} room e =
      record {
        answer_is = rows_elsewhere (length before) room;
        table_is =
            rw (e, rows_count)
            (rows_copied (cases s) before rows_filled (omega (arith, rows_within, rows_count)) (omega (arith, rows_count)));
      }

  -- the numbers put are the summary of the rows
  pub summary_is : {known : List ℤ} {places : List ℕ} {count : ℕ} (sums : List Sums) → Places own n known places count
      → ((j : ℕ) → j < most_lines → get_or sums j none ≡ sums_at own places j n) → sixes known sums 0 count ≡ summary_of (sheet_rows s)
  summary_is {known} {places} {count} sums p g =
      summary_put (cases s) own rows_filled.parts {known = known} {places = places} {count = count} (rw (← rows_count) p) sums
      (λ j h. rw (← rows_count) (g j h)) (omega (arith, rows_most, rows_count))

-- refused in such a table
pub refused_elsewhere : {s : List ℕ} {zeros own : List ℤ} {r : Answer} {number line column : ℕ} → Answered s zeros own r
    → r ≡ sheet.Refused number line column
    → length zeros ≡ row_length * most_lines → (room : ℕ) → sheet.Refused number line column ≡ answer s room
refused_elsewhere {s} {zeros} told q whole room = refused_anywhere s (length zeros) (omega arith) room (sym q ∙ told.answer_is)

-- ---- the claim

module _ (s : List ℕ) (rows before : List ℤ) where
  -- refused by the sheet's own question
  pub summary_refused_lem : {number line column : ℕ} → sheet.Refused number line column ≡ answer s (length rows)
      → SummaryAnswered s rows rows before before (refuse number line column)
  unfolding summary_answer answer_after TablesAfter
  summary_refused_lem e = record { answer_is = rw (← e); tables_are = record { rows = refl; summary = refl } }

  module _ {n m : ℕ} (e : sheet.Rows n ≡ answer s (length rows)) (count : m ≡ length (stations (sheet_rows s))) where
    -- the summary table is too short
    pub summary_short : length before < station_length * m → SummaryAnswered s rows rows before before (refuse 20 0 0)
    unfolding summary_answer answer_after summary_refused TablesAfter
    summary_short h =
        record {
          answer_is = rw (← e, ← count, lt-ltb (length before) (station_length * m) h);
          tables_are = record { rows = refl; summary = refl };
        }

    pub summary_done : {after summary : List ℤ} (put : List (List ℤ)) → station_length * m ≤ length before
        → Answered s rows after (sheet.Rows n)
        → put ≡ summary_of (sheet_rows s) → summary ≡ filled put before → SummaryAnswered s rows after before summary (Ok (counts n m))
    unfolding summary_answer answer_after TablesAfter
    summary_done put h a q u =
        record {
          answer_is = rw (← e, ← count, le-ltb (length before) (station_length * m) h);
          tables_are = record { rows = a; summary = u ∙ ap (λ (l : List (List ℤ)). filled l before) q };
        }
