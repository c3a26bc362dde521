-- The stations that a sheet is answered with lie within the summary table.
use Prim.Native.Nat.{ℕ, ◌*◌, ◌≤◌}
use mathlib.Core.{Path.{◌≡◌, refl, sym, ap, ◌∙◌}, Bool.{Bool, true, false, cond}, List.{List, [], ◌∷◌, map}}
use native.Mathlib.Omega.{arith}
use lib.{Dec.{ltb}, IntN.{ℤ}, ListN.{length, drop, length-drop}}
use borrow.Author.Tests.{ltb-false}
use Rattle.text.proofs.Clash.{clash}
use Rattle.row.specs.declared.Row.{Row}
use Rattle.sheet.specs.declared.Answer.{Answer}
use Rattle.sheet.specs.declared.Answer.TheVariants as sheet
use Rattle.station_sums.specs.Summary.{stations, rows_of, station_length, station_numbers, summary_of, filled}
use Rattle.stations.specs.Answer.{sheet_rows, summary_refused, answer_after, summary_answer, Summarised, TablesAfter, SummaryAnswered}
use Rattle.std.specs.Prelude.{Result, Ok}
use Rattle.refusal.specs.{declared.Refused.{Refused}, Refused.{refuse}}
use Rattle.stations.specs.declared.Counts.{Counts}
use Rattle.stations.specs.Answer.{counts}

-- two pairs of counts that are answered as one are the same
pub same_counts : {n m n' m' : ℕ} → ◌≡◌ {A = Result Counts Refused} (Ok (counts n m)) (Ok (counts n' m')) → (n ≡ n') × (m ≡ m')
same_counts {n} {m} {n'} {m'} h =
    let e : counts n m ≡ counts n' m' = cc in
    (ap (λ (c : Counts). c.rows) e, ap (λ (c : Counts). c.stations) e)

-- what counts of rows and stations say of the room
record StationsCounted (room : ℕ) (rows : List Row) (m : ℕ) : Type 0 where
  count : m ≡ length (stations rows)
  fits : station_length * m ≤ room

stations_counted : (room : ℕ) (rows : List Row) (a : Answer) (n m : ℕ) → Ok (counts n m) ≡ answer_after room rows a → StationsCounted room rows m
unfolding answer_after summary_refused
stations_counted room rows (sheet.Refused k l c) n m e = clash cc
stations_counted room rows (sheet.Rows k) n m e = go (ltb room (station_length * length (stations rows))) refl e
  where
    go : (b : Bool) → ltb room (station_length * length (stations rows)) ≡ b
        → Ok (counts n m) ≡ cond b (refuse 20 0 0) (Ok (counts k (length (stations rows)))) → StationsCounted room rows m
    go true f h = clash cc
    go false f h =
        let q : m ≡ length (stations rows) = (same_counts h).1 in
        record { count = q; fits = rw q (ltb-false room (station_length * length (stations rows)) f) }

-- the summary fills its own part of the table
filled_length : (rows : List Row) (l : List ℤ) (before : List ℤ) → station_length * length l ≤ length before
    → length (filled (map (λ station. station_numbers station (rows_of station rows)) l) before) ≡ length before
unfolding filled station_numbers
filled_length rows [] before h = refl
filled_length rows (x ∷ l) before h =
    omega (
      arith,
      filled_length rows l (drop station_length before) (omega (arith, length-drop station_length before)),
      length-drop
          station_length before,
    )

module _ {s : List ℕ} {rowsBefore rowsAfter before after : List ℤ} {r : Result Counts Refused} {n m : ℕ}
    (a : SummaryAnswered s rowsBefore rowsAfter before after r) (e : r ≡ Ok (counts n m)) where
  tables : Summarised s n rowsBefore rowsAfter before after
  unfolding TablesAfter
  tables = rw e at a.tables_are

  pub summary_within : station_length * m ≤ length after
  unfolding summary_answer summary_of
  summary_within =
      let c = stations_counted (length before) (sheet_rows s) _ n m (sym e ∙ a.answer_is) in
      let long = filled_length (sheet_rows s) (stations (sheet_rows s)) before (omega (arith, c.fits, c.count)) in
      omega (arith, c.fits, long, ap length tables.summary)
