-- §7.2: the answer to a sheet, a licence and a table, and what it leaves in the table: one claim over every three of them.
use Rattle.std.specs.Prelude.{ℕ, ◌*◌, Option, Some, None}
use mathlib.Core.{Path.{◌≡◌}, Bool.{cond}, List.{List, []}}
use lib.{Dec.{ltb}, IntN.{ℤ}, ListN.{length, get_or}}
use Rattle.tables.specs.Parts as parts
use Rattle.case.specs.{declared.Case.{Case}, Columns.{columns}}
use Rattle.case.specs.Counted.{refused_or}
use Rattle.judgement.specs.Sheet.{judgement}
use Rattle.sheet.specs.Answer.{cases}
use Rattle.release.specs.Licence.{entries_of, bad_count, first_wrong}
use Rattle.release.specs.Entry.{entry_length, release_of}
use Rattle.std.specs.Prelude.{Result, Ok, Err}
use Rattle.refusal.specs.{declared.Refused.{Refused}, Refused.{refuse}}

-- last 23, 0, 0 when the table is shorter than eight numbers an entry; the answer is the count of entries
unfoldable pub room_answer : ℕ → ℕ → Result ℕ Refused
room_answer room count = cond (ltb room (entry_length * count)) (refuse 23 0 0) (Ok count)

-- 22 with the first wrong entry's place from 1 as line, else what comes next
unfoldable pub after_entries : Result ℕ Refused → Option (ℕ × ℕ) → Result ℕ Refused
after_entries next (Some (place, column)) = refuse 22 place column
after_entries next None = next

-- then over the whole licence 21, 0, 0 when the count of numbers is 0, no multiple of three or above 768; 22; last 23
unfoldable pub licence_answer : List ℕ → ℕ → Result ℕ Refused
licence_answer licence room =
    cond (bad_count (length licence)) (refuse 21 0 0)
    (after_entries (room_answer room (length (entries_of licence))) (first_wrong [] 1 (entries_of licence)))

-- of a sheet and a licence, for a table of this length: "Refusals: the sheet's own 1 to 7; then"
unfoldable pub release_answer : List ℕ → List ℕ → ℕ → Result ℕ Refused
release_answer s licence room = refused_or (judgement columns s) (licence_answer licence room)

-- for each entry in the licence's order eight numbers; "numbers past the last keep what they held"
abbrev pub Filled : List (List ℤ) → List ℤ → List ℤ → Type 0
Filled entries before after = parts.Filled entry_length (λ i part. part ≡ get_or entries i []) (length entries) before after

-- the numbers of the cases of a sheet; "any refusal leaves the table"
unfoldable pub TableAfter : List Case → List ℕ → List ℤ → List ℤ → Result ℕ Refused → Type 0
TableAfter cs licence before after (Ok count) = Filled (release_of (entries_of licence) cs) before after
TableAfter cs licence before after (Err why) = after ≡ before

-- the same of the cases of a sheet that was read
pub record LinesReleased (cs : List Case) (licence : List ℕ) (before after : List ℤ) (r : Result ℕ Refused) : Type 0 where
  pub answer_is : r ≡ licence_answer licence (length before)
  pub table_is : TableAfter cs licence before after r

-- the answer and what it leaves in the table. Two wrong programs: one whose refusal writes breaks `table_is`; one that refuses a wrong
-- entry with 21 breaks `answer_is`.
pub record ReleaseAnswered (s licence : List ℕ) (before after : List ℤ) (r : Result ℕ Refused) : Type 0 where
  pub answer_is : r ≡ release_answer s licence (length before)
  pub table_is : TableAfter (cases s) licence before after r
