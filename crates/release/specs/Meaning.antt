-- §7.2: what the eight numbers say of the sheet, in words of its lines and of exact values: proofs/ReleasedStations.antt shows that it
-- holds.
use Rattle.std.specs.Prelude.{ℕ, ◌+◌, ◌*◌, ◌≤◌, ◌<◌}
use mathlib.Core.{Path.{◌≡◌}, Bool.{true}, List.{List, []}}
use lib.{IntN.{ℤ, pos, nat_abs}, ListN.{length, get_or}}
use Rattle.exact.specs.Exact.{AtOrBelow}
use Rattle.tables.specs.Parts.{part_at}
use Rattle.case.specs.{declared.Case.{Case}, Case.{case_of}}
use Rattle.formulas.specs.Tolerable
use Rattle.formulas.specs.Mesh
use Rattle.formulas.specs.Step
use Rattle.row.specs.Ends.{row_of}
use Rattle.headroom.specs.Headroom.{InRange, SafeWith}
use Rattle.sheet.specs.Answer.{cases}
use Rattle.tally.specs.Lines.{licensed, area_of}
use Rattle.release.specs.Entry.{entry_length}

-- number `place`, from 0, of the entry with index k
abbrev pub answer_at : List ℤ → ℕ → ℕ → ℤ
answer_at table k place = get_or (part_at entry_length table k) place (pos 0)

-- the station, the seasons and the conductor's cross-section of the entry with index k
abbrev pub licensed_station : List ℕ → ℕ → ℕ
licensed_station licence k = get_or licence (3 * k) 0

abbrev pub licensed_seasons : List ℕ → ℕ → ℕ
licensed_seasons licence k = get_or licence (3 * k + 1) 0

abbrev pub licensed_area : List ℕ → ℕ → ℕ
licensed_area licence k = get_or licence (3 * k + 2) 0

-- the case of value line j
abbrev pub line_at : List ℕ → ℕ → Case
line_at s j = get_or (cases s) j (case_of [])

-- value line j is a line of the station
pub record LineOf (s : List ℕ) (station j : ℕ) : Type 0 where
  pub within : j < length (cases s)
  pub own : (line_at s j).station ≡ station

-- a line of the station for a season
pub record SeasonLine (s : List ℕ) (station season : ℕ) : Type 0 where
  pub line : ℕ
  pub own : LineOf s station line
  pub season_is : (line_at s line).season ≡ season

-- "across, along, space, depth, dia, rods, rodlen, place, metal"
pub record OneYard (c d : Case) : Type 0 where
  pub across : c.across ≡ d.across
  pub along : c.along ≡ d.along
  pub space : c.space ≡ d.space
  pub depth : c.depth ≡ d.depth
  pub dia : c.dia ≡ d.dia
  pub rods : c.rods ≡ d.rods
  pub rodlen : c.rodlen ≡ d.rodlen
  pub place : c.place ≡ d.place
  pub metal : c.metal ≡ d.metal

-- "of a released station every season of the licence has a line, and in every line of it, for one and the same yard, the exact mesh and
-- step voltages are at or below what is tolerable"; and no conductor is too small for the row's size
pub record ReleasedStation (s : List ℕ) (station seasons area : ℕ) : Type 0 where
  pub every_season : (i : ℕ) → 1 ≤ i → i ≤ 4 → licensed i seasons ≡ true → SeasonLine s station i
  pub one_yard : (i j : ℕ) → LineOf s station i → LineOf s station j → OneYard (line_at s i) (line_at s j)
  pub mesh : (j : ℕ) → LineOf s station j → AtOrBelow (Mesh.mesh (line_at s j)) (Tolerable.tolerable_touch (line_at s j))
  pub step : (j : ℕ) → LineOf s station j → AtOrBelow (Step.step (line_at s j)) (Tolerable.tolerable_step (line_at s j))
  pub wire : (j : ℕ) → LineOf s station j → nat_abs (row_of (line_at s j)).size ≤ area_of area (line_at s j)

-- put into every line of the station, a fault current leaves every line answered safe
abbrev pub SafeThroughout : List ℕ → ℕ → ℕ → Type 0
SafeThroughout s station f = (j : ℕ) → LineOf s station j → SafeWith (line_at s j) f

-- "the greatest fault current at which, put into every line of the station, every line is answered safe (0 where none, or no line)"
pub record FaultReported (s : List ℕ) (station F : ℕ) : Type 0 where
  pub in_range_lem : 1 ≤ F → InRange F
  pub safe : (f : ℕ) → InRange f → f ≤ F → SafeThroughout s station f
  pub greatest : (f : ℕ) → 1 ≤ F → InRange f → SafeThroughout s station f → f ≤ F
  -- with 0, a station that has a line is safe throughout at no fault current
  pub none : F ≡ 0 → (j f : ℕ) → LineOf s station j → InRange f → ¬ SafeThroughout s station f

-- "Released exactly when the five counts are 0"
pub record NothingFound (table : List ℤ) (k : ℕ) : Type 0 where
  pub no_season : answer_at table k 2 ≡ pos 0
  pub no_unsafe : answer_at table k 3 ≡ pos 0
  pub no_undecided : answer_at table k 4 ≡ pos 0
  pub no_other_yard : answer_at table k 5 ≡ pos 0
  pub no_small_wire : answer_at table k 6 ≡ pos 0
