-- What an answer that is a count of entries says: the sheet was read, its cases are within their bounds, and the count is that of the
-- entries.
use Prim.Native.Nat.{ℕ, ◌*◌, ◌/◌, ◌<◌}
use mathlib.Core.{Path.{◌≡◌, sym, ◌∙◌}, Bool.{Bool, true, false, cond}, List.{List, []}}
use lib.{Dec.{ltb}, ListN.{length, length-map}}
use Rattle.text.{specs.Text.{fields_of}, proofs.Clash.{clash}}
use Rattle.case.specs.{Columns.{columns}, Bounds.{Bounds}}
use Rattle.case.proofs.Passed.{passed}
use Rattle.header.specs.Header.{columns_of}
use Rattle.line.specs.Line.{line_case}
use Rattle.judgement.{specs.Sheet.{names, value_lines, judgement}, proofs.Accepted.{accepted}}
use Rattle.sheet.{specs.Answer.{cases}, proofs.{Accepted.{sound_bounds}, StoredCases.{case_at_lem}}}
use Rattle.std.specs.Prelude.{Option, Some, None}
use Rattle.release.specs.{Licence.{entries_of, bad_count, first_wrong}, Entry.{entry_length}}
use Rattle.release.specs.{Answer.{room_answer, after_entries, licence_answer, release_answer}, Meaning.{line_at}}
use Rattle.tally.{specs.Tally.{EveryBounds}, proofs.Members.{every_bounds}}
use Rattle.release.proofs.Entries.{entry_count}
use Rattle.std.specs.Prelude.{Ok}
use Rattle.refusal.specs.{Refused.{refuse}}

-- ---- an answer that is a count of entries

never : {A : Type 0} {n k l c : ℕ} → refuse k l c ≡ Ok n → A
never e = clash cc

room_count : (room n m : ℕ) → room_answer room m ≡ Ok n → m ≡ n
unfolding room_answer
room_count room n m e = go (ltb room (entry_length * m)) e
  where
    go : (t : Bool) → cond t (refuse 23 0 0) (Ok m) ≡ Ok n → m ≡ n
    go true h = never h
    go false h = cc

licence_count : (licence : List ℕ) (room n : ℕ) → licence_answer licence room ≡ Ok n → length licence / 3 ≡ n
unfolding licence_answer after_entries
licence_count licence room n e = go (bad_count (length licence)) (first_wrong [] 1 (entries_of licence)) e
  where
    go : (t : Bool) (w : Option (ℕ × ℕ)) → cond t (refuse 21 0 0) (after_entries (room_answer room (length (entries_of licence))) w) ≡ Ok n
        → length licence / 3 ≡ n
    go true w h = never h
    go false (Some (place, column)) h = never h
    go false None h = sym (entry_count licence) ∙ room_count room n (length (entries_of licence)) h

pub record EntriesCounted (s licence : List ℕ) (n : ℕ) : Type 0 where
  pub lines : ℕ
  pub read : judgement columns s ≡ Ok lines
  pub count : length licence / 3 ≡ n

pub entries_counted : (s licence : List ℕ) (room n : ℕ) → release_answer s licence room ≡ Ok n → EntriesCounted s licence n
unfolding release_answer
entries_counted s licence room n e =
    let p = passed (judgement columns s) (licence_answer licence room) (sym e) in
    record { lines = p.0; read = p.1; count = licence_count licence room n (sym p.2) }

-- ---- the cases of a sheet that was read are within their bounds

pub cases_bounds : (s : List ℕ) (m : ℕ) → judgement columns s ≡ Ok m → EveryBounds (cases s)
unfolding cases
cases_bounds s m e = every_bounds (cases s) (λ k h. at k h)
  where
    at : (k : ℕ) → k < length (cases s) → Bounds (line_at s k)
    at k h =
        let a = accepted columns s m e in
        let l : k < length (value_lines s) =
        rw (length-map (value_lines s) (λ line. line_case (columns_of columns (names s)) (fields_of line))) at h in
        rw (case_at_lem (columns_of columns (names s)) (value_lines s) k l) (sound_bounds a.placed (a.lines.line k l))
