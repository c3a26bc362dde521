-- The claim about a sheet, a licence and a table, from what the checks found.
use Prim.Native.Nat.{ℕ, ◌*◌, ◌/◌, ◌≤◌, ◌<◌}
use mathlib.Core.{Path.{◌≡◌, refl}, Bool.{true, false}, List.{List, []}}
use lib.{IntN.{ℤ}, ListN.{length}}
use borrow.Author.Tests.{lt-ltb, le-ltb}
use Rattle.case.specs.{declared.Case.{Case}, Columns.{columns}}
use Rattle.case.specs.Counted.{refused_or}
use Rattle.judgement.specs.Sheet.{judgement}
use Rattle.sheet.specs.Answer.{cases}
use Rattle.std.specs.Prelude.{Some, None}
use Rattle.release.specs.{Licence.{entries_of, bad_count, first_wrong}, Entry.{entry_length, release_of}}
use Rattle.release.specs.Answer.{room_answer, after_entries, licence_answer, release_answer, Filled, TableAfter}
use Rattle.release.specs.Answer.{LinesReleased}
use Rattle.release.specs.Answer.{ReleaseAnswered}
use Rattle.release.proofs.Entries.{entry_count}
use Rattle.std.specs.Prelude.{Err, Result, Ok}
use Rattle.refusal.specs.{declared.Refused.{Refused}, Refused.{refuse}}

-- ---- the licence

module _ (cs : List Case) (licence : List ℕ) (t : List ℤ) where
  pub count_refused : bad_count (length licence) ≡ true → LinesReleased cs licence t t (refuse 21 0 0)
  unfolding licence_answer TableAfter
  count_refused e = record { answer_is = rw e; table_is = refl }

  module _ (sound : bad_count (length licence) ≡ false) where
    pub entry_refused : {place column : ℕ} → first_wrong [] 1 (entries_of licence) ≡ Some (place, column)
        → LinesReleased cs licence t t (refuse 22 place column)
    unfolding licence_answer after_entries TableAfter
    entry_refused e = record { answer_is = rw (sound, e); table_is = refl }

    module _ (right : first_wrong [] 1 (entries_of licence) ≡ None) where
      pub room_refused : length t < entry_length * (length licence / 3) → LinesReleased cs licence t t (refuse 23 0 0)
      unfolding licence_answer after_entries room_answer TableAfter
      room_refused h =
          record {
            answer_is = rw (sound, right, entry_count licence, lt-ltb (length t) (entry_length * (length licence / 3)) h);
            table_is = refl;
          }

      pub entries_released : {u : List ℤ} → entry_length * (length licence / 3) ≤ length t → Filled (release_of (entries_of licence) cs) t u
          → LinesReleased cs licence t u (Ok (length licence / 3))
      unfolding licence_answer after_entries room_answer TableAfter
      entries_released h f =
          record {
            answer_is = rw (sound, right, entry_count licence, le-ltb (length t) (entry_length * (length licence / 3)) h);
            table_is = f;
          }

-- ---- the sheet

module _ (s licence : List ℕ) (t : List ℤ) where
  pub sheet_refused : {j : Result ℕ Refused} {why : Refused} → j ≡ judgement columns s → j ≡ Err why → ReleaseAnswered s licence t t (Err why)
  unfolding release_answer refused_or TableAfter
  sheet_refused q e = record { answer_is = rw (← q, e); table_is = refl }

  pub sheet_read : {n : ℕ} {u : List ℤ} {r : Result ℕ Refused} → judgement columns s ≡ Ok n → LinesReleased (cases s) licence t u r
      → ReleaseAnswered s licence t u r
  unfolding release_answer refused_or
  sheet_read e a = record { answer_is = rw e a.answer_is; table_is = a.table_is }
