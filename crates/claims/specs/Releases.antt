-- §7.2: a sheet and a licence, asked with a table that was `before`, were answered with r.
use Rattle.std.specs.Prelude.{ℕ, ◌+◌, ◌*◌, ◌≤◌, ◌<◌}
use mathlib.Core.{Path.{◌≡◌}, Bool.{true}, List.{List}, Logic.{◌⊎◌, ◌↔◌}}
use lib.{IntN.{ℤ, pos, nat_abs}, ListN.{length, drop}}
use Rattle.tables.specs.Parts.{part_at}
use Rattle.case.specs.{Bounds.{Between}, Fault.{with_fault}}
use Rattle.decision.specs.declared.Verdict.TheVariants.{Safe}
use Rattle.row.specs.declared.Row.{Row}
use Rattle.sheet.specs.Answer.{cases}
use Rattle.tally.specs.Lines.{licensed}
use Rattle.release.specs.Entry.{station_numbers}
use Rattle.release.specs.Meaning.{answer_at, licensed_station, licensed_seasons, licensed_area, LineOf, SeasonLine, OneYard, NothingFound}
use Rattle.hocsimbur.specs.{Asked.{RowAnswered, AnsweredWith}}
use Rattle.claims.specs.{Words.{BreaksNone, Breaks, case_at, TrulySafe}, Later.{FaultInside}}
use Rattle.std.specs.Prelude.{Result, Ok}
use Rattle.refusal.specs.{declared.Refused.{Refused}, Refused.{refuse}}

-- ---- the licence: entries of a station, its seasons and "the conductor's own cross-section in whole kcmil"

-- so many entries: not "21, 0, 0 when the count of numbers is 0", no multiple of three or above 768
pub record InEntries (licence : List ℕ) (count : ℕ) : Type 0 where
  pub three_each : length licence ≡ 3 * count
  pub some : 1 ≤ count
  pub most : count ≤ 256

-- "when its station is not in 1..65535 or stands in an earlier" entry: not so of entry k, from 0
pub record StationSound (licence : List ℕ) (k : ℕ) : Type 0 where
  pub inside : Between 1 (licensed_station licence k) 65535
  pub first : (i : ℕ) → i < k → ¬ (licensed_station licence i ≡ licensed_station licence k)

-- "or its seasons are not in 1..15": not so
abbrev pub SeasonsSound : List ℕ → ℕ → Type 0
SeasonsSound licence k = Between 1 (licensed_seasons licence k) 15

-- "1..2000; 0 as today": so
abbrev pub AreaSound : List ℕ → ℕ → Type 0
AreaSound licence k = licensed_area licence k ≤ 2000

-- the column at fault of entry k: "(column 1)", "(column 2)", and 3 of the cross-section
pub data EntryWrong (licence : List ℕ) (k : ℕ) : ℕ → Type 0 where
  at_station : ¬ StationSound licence k → EntryWrong licence k 1
  at_seasons : StationSound licence k → ¬ SeasonsSound licence k → EntryWrong licence k 2
  at_area : StationSound licence k → SeasonsSound licence k → ¬ AreaSound licence k → EntryWrong licence k 3

abbrev pub EntrySound : List ℕ → ℕ → Type 0
EntrySound licence k = StationSound licence k × SeasonsSound licence k × AreaSound licence k

-- ---- what the eight numbers of an entry say

-- "of a released station every season of the licence has a line, and in every line of it, for one and the same yard, the exact mesh and
-- step voltages are at or below what is tolerable"; and no conductor is too small for the row's size
pub record ReleasedStation (s : List ℕ) (station seasons area : ℕ) : Type 0 where
  pub every_season : (i : ℕ) → 1 ≤ i → i ≤ 4 → licensed i seasons ≡ true → SeasonLine s station i
  pub one_yard : (i j : ℕ) → LineOf s station i → LineOf s station j → OneYard (case_at s i) (case_at s j)
  pub tolerable : (j : ℕ) → LineOf s station j → TrulySafe (case_at s j)
  -- by the conductor's own cross-section, where the licence has one
  pub own_wire : 1 ≤ area → (j : ℕ) {r : Row} → LineOf s station j → RowAnswered (case_at s j) (Ok r) → nat_abs r.size ≤ area
  -- else "solid and round, worked from the diameter"
  pub round_wire : area ≡ 0 → (j : ℕ) {r : Row} → LineOf s station j → RowAnswered (case_at s j) (Ok r)
      → 64516 * nat_abs r.size ≤ 1000 * ((case_at s j).dia * (case_at s j).dia)

-- with this fault current in every line of the station, every line is answered safe
abbrev pub SafeThroughout : List ℕ → ℕ → ℕ → Type 0
SafeThroughout s station f = (j : ℕ) (a : Result Row Refused) → LineOf s station j → RowAnswered (with_fault f (case_at s j)) a → AnsweredWith Safe a

-- "the fault current reported is exact as in (1)": with F, and with 0
pub record FaultReported (s : List ℕ) (station F : ℕ) : Type 0 where
  pub inside : 1 ≤ F → FaultInside F
  pub exact : 1 ≤ F → (f : ℕ) → FaultInside f → SafeThroughout s station f ↔ f ≤ F
  -- "(0 where none, or no line)"
  pub none : F ≡ 0 → (f j : ℕ) → FaultInside f → LineOf s station j → ¬ SafeThroughout s station f

-- entry k, from 0, of the licence in the table
pub record EntryTold (s licence : List ℕ) (after : List ℤ) (k : ℕ) : Type 0 where
  -- "eight numbers", of all lines of the station
  pub numbers : part_at 8 after k ≡ station_numbers (licensed_station licence k) (licensed_seasons licence k) (licensed_area licence k) (cases s)
  pub station : answer_at after k 0 ≡ pos (licensed_station licence k)
  -- "1 released or 2 held"
  pub one_or_two : (answer_at after k 1 ≡ pos 1) ⊎ (answer_at after k 1 ≡ pos 2)
  -- "Released exactly when the five counts are 0."
  pub released : answer_at after k 1 ≡ pos 1 ↔ NothingFound after k
  pub means : answer_at after k 1 ≡ pos 1
      → ReleasedStation s (licensed_station licence k) (licensed_seasons licence k) (licensed_area licence k)
  pub fault : FaultReported s (licensed_station licence k) (nat_abs (answer_at after k 7))

-- ---- the answer

-- every answer, each with its condition; the conditions exclude one another (Answers.antt)
pub data ReleaseOutcome (s licence : List ℕ) (before after : List ℤ) : Result ℕ Refused → Type 0 where
  -- "Refusals: the sheet's own 1 to 7"; "any refusal leaves the table"
  rule : {number line column : ℕ} → Breaks s number line column → after ≡ before
      → ReleaseOutcome s licence before after (refuse number line column)
  -- "then over the whole licence 21, 0, 0"
  count : {n : ℕ} → BreaksNone s n → ((m : ℕ) → ¬ InEntries licence m) → after ≡ before
      → ReleaseOutcome s licence before after (refuse 21 0 0)
  -- "22 with the first such" entry's "place from 1 as line"
  entry : {n m k column : ℕ} → BreaksNone s n → InEntries licence m → k < m → EntryWrong licence k column
      → ((i : ℕ) → i < k → EntrySound licence i) → after ≡ before → ReleaseOutcome s licence before after (refuse 22 (k + 1) column)
  -- "last 23, 0, 0 when the table is shorter than eight numbers" an entry
  table : {n m : ℕ} → BreaksNone s n → InEntries licence m → ((i : ℕ) → i < m → EntrySound licence i) → length before < 8 * m
      → after ≡ before → ReleaseOutcome s licence before after (refuse 23 0 0)
  -- the answer is the count of entries; "numbers past the last keep what they held."
  entries : {n m : ℕ} → BreaksNone s n → InEntries licence m → ((i : ℕ) → i < m → EntrySound licence i) → 8 * m ≤ length before
      → ((k : ℕ) → k < m → EntryTold s licence after k) → drop (8 * m) after ≡ drop (8 * m) before → length after ≡ length before
      → ReleaseOutcome s licence before after (Ok m)
