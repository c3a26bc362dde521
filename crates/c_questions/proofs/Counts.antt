-- The counts that operations answer have 64 signed bits: a table has room for so many parts.
use Prim.Native.Nat.{ℕ, ◌*◌, ◌≤◌, ◌<◌, ◌^◌}
use mathlib.Core.{Path.{◌≡◌, refl}, Bool.{Bool, true, false, cond}, List.{List, []}}
use native.Mathlib.Omega.{arith}
use lib.{Dec.{ltb}, IntN.{ℤ}, ListN.{length}}
use borrow.Author.Tests.{ltb-false}
use Rattle.text.proofs.Clash.{clash}
use Rattle.case.specs.{declared.Form.{Form}, Columns.{columns}, Parts.{form_of}}
use Rattle.case.proofs.Passed.{passed}
use Rattle.judgement.specs.Sheet.{judgement}
use Rattle.carried_values.specs.{Values.{other, cases_in}, Changes.{changes}}
use Rattle.conversion.proofs.RoundTrip.{carried_short}
use Rattle.conversion.specs.Answer as conversion
use Rattle.sheet.specs.declared.Answer as sheets
use Rattle.sheet.specs.declared.Answer.TheVariants as sheet
use Rattle.sheet.specs.Answer.{answer}
use Rattle.station_sums.specs.Summary.{stations, station_length}
use Rattle.stations.specs.{Answer.{sheet_rows, summary_refused, answer_after, summary_answer, SummaryAnswered}}
use Rattle.std.specs.Prelude.{Option, Some, None}
use Rattle.release.specs.{Licence.{entries_of, bad_count, first_wrong}, Entry.{entry_length}}
use Rattle.release.specs.Answer.{room_answer, after_entries, licence_answer, release_answer, ReleaseAnswered}
use Rattle.c_tell.specs.Room.{Few}
use Rattle.c_reply.specs.Stations.{station_count}
use Rattle.std.specs.Prelude.{Result, Ok, Err}
use Rattle.refusal.specs.{declared.Refused.{Refused}, Refused.{refuse}}
use Rattle.stations.specs.declared.Counts.{Counts}
use Rattle.stations.{specs.Answer.{counts}, proofs.Within.{same_counts}}

-- ---- stations

stations_room : (room : ℕ) (s : List ℕ) (a : sheets.Answer) (n m : ℕ) → Ok (counts n m) ≡ answer_after room (sheet_rows s) a
    → station_length * m ≤ room
unfolding answer_after summary_refused
stations_room room s (sheet.Refused k l c) n m e = clash cc
stations_room room s (sheet.Rows count) n m e =
    go (ltb room (station_length * length (stations (sheet_rows s)))) refl e
  where
    go : (b : Bool) → ltb room (station_length * length (stations (sheet_rows s))) ≡ b
        → Ok (counts n m) ≡ cond b (refuse 20 0 0) (Ok (counts count (length (stations (sheet_rows s)))))
        → station_length * m ≤ room
    go true q h = clash cc
    go false q h =
        let z : m ≡ length (stations (sheet_rows s)) = (same_counts h).1 in
        omega (arith, z, ltb-false room (station_length * length (stations (sheet_rows s))) q)

pub stations_few : {s : List ℕ} {rowsBefore rowsAfter before after : List ℤ} (a : Result Counts Refused) → length before < 2 ^ 64
    → SummaryAnswered s rowsBefore rowsAfter before after a → Few (station_count a)
unfolding Few station_count summary_answer
stations_few {s} {rowsBefore} {rowsAfter} {before} (Ok found) h p =
    omega (arith, stations_room (length before) s (answer s (length rowsBefore)) found.rows found.stations p.answer_is)
stations_few (Err why) h p = tt

-- ---- pairs

room_entries : (room count k : ℕ) → Ok k ≡ room_answer room count → entry_length * k ≤ room
unfolding room_answer
room_entries room count k e = go (ltb room (entry_length * count)) refl e
  where
    go : (b : Bool) → ltb room (entry_length * count) ≡ b → Ok k ≡ cond b (refuse 23 0 0) (Ok count)
        → entry_length * k ≤ room
    go true q h = clash cc
    go false q h = let z : k ≡ count = cc in omega (arith, z, ltb-false room (entry_length * count) q)

after_entries_lem : (room count k : ℕ) (w : Option (ℕ × ℕ)) → Ok k ≡ after_entries (room_answer room count) w → entry_length * k ≤ room
unfolding after_entries
after_entries_lem room count k (Some (place, column)) e = clash cc
after_entries_lem room count k None e = room_entries room count k e

licence_entries : (licence : List ℕ) (room k : ℕ) → Ok k ≡ licence_answer licence room → entry_length * k ≤ room
unfolding licence_answer
licence_entries licence room k e = go (bad_count (length licence)) e
  where
    rest : Result ℕ Refused
    rest = after_entries (room_answer room (length (entries_of licence))) (first_wrong [] 1 (entries_of licence))

    go : (b : Bool) → Ok k ≡ cond b (refuse 21 0 0) rest → entry_length * k ≤ room
    go true h = clash cc
    go false h = after_entries_lem room (length (entries_of licence)) k (first_wrong [] 1 (entries_of licence)) h

pub entries_few : {s licence : List ℕ} {before after : List ℤ} (a : Result ℕ Refused) → length before < 2 ^ 64
    → ReleaseAnswered s licence before after a → Few a
unfolding Few release_answer
entries_few {s} {licence} {before} (Ok k) h p =
    omega (arith, licence_entries licence (length before) k (passed (judgement columns s) _ p.answer_is).2)
entries_few (Err why) h p = tt

-- ---- bytes: a carried sheet is no longer than a sheet may be

module _ (form : Form) (s : List ℕ) where
  abbrev text : List ℕ
  text = conversion.carried_text form s

  room_bytes : (room k : ℕ) → Ok k ≡ conversion.room_answer text room → k ≡ length text
  unfolding conversion.room_answer
  room_bytes room k e = go (ltb room (length text)) e
    where
      go : (b : Bool) → Ok k ≡ cond b (refuse 8 0 0) (Ok (length text)) → k ≡ length text
      go true h = clash cc
      go false h = cc

  pub bytes_few : {before after : List ℕ} (a : Result ℕ Refused) → conversion.Answered form s before after a → Few a
  unfolding Few conversion.answer
  bytes_few {before} (Ok k) p =
      let j = passed (judgement (form_of (other form)) s) _ p.answer_is in
      let c = passed (changes form (cases_in (form_of (other form)) s)) _ j.2 in
      omega (arith, room_bytes (length before) k c.2, carried_short form s j.0 j.1)
  bytes_few (Err why) p = tt
