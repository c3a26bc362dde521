-- §1.1–§1.6: the rules of a sheet in the specification's words, of its text: what holds of a sheet that breaks none. The condition of each
-- refusal is in Order.antt. Columns count from 1; value lines count from 0, so that value line i is line i + 2 of the sheet.
use Prim.Native.{Nat.{ℕ, ◌-◌, ◌≤◌, ◌<◌}, String.{String}}
use mathlib.Core.{Path.{◌≡◌}, Logic.{◌⊎◌}, List.{List, [], ◌∷◌}}
use lib.{IntN.{ℤ}, ListN.{length, get_or}}
use Rattle.text.specs.{Text.{bytes, fields_of}, Value.{value_of}}
use Rattle.case.specs.{declared.Case.{Case}, Case.{case_of}, Columns.{columns}, Bounds.{Bounds}}
use Rattle.header.specs.{Parts.{name_at}, Names.{field_at, StandsAt, StandsOnce, KnownName}}
use Rattle.judgement.specs.{Limits.{earlier}, Sheet.{names, value_lines, judgement_within}, Wrong.{RightValues}}
use Rattle.sheet.specs.{declared.Answer.TheVariants.{Rows}, Table.{TableAfter}, Examples.{sample}}
use Rattle.claims.specs.Words.{BreaksNone, case_at}
use Rattle.std.specs.Prelude.{Ok}
use Rattle.refusal.specs.{Refused.{refuse}}

-- the fields of value line i
abbrev pub fields_at : List ℕ → ℕ → List (List ℕ)
fields_at s i = fields_of (get_or (value_lines s) i [])

-- ---- §1.1, §1.3: a case and the text of its line

-- "Its first line holds names, and each later line holds values in that order": a column of the first line holds this name, and value line
-- i this number in the same column
pub record Under (s : List ℕ) (i : ℕ) (name : String) (value : ℕ) : Type 0 where
  pub column : ℕ
  pub named : StandsAt (names s) (bytes name) column
  pub number : value ≡ value_of (field_at (fields_at s i) column)

-- a case has for each name the number that value line i has under it
pub record OwnLine (s : List ℕ) (i : ℕ) (c : Case) : Type 0 where
  pub within : i < length (value_lines s)
  -- "A value is one to six decimal digits; 0 is the only value that may start with 0.": 22 of them
  pub values : RightValues 22 (fields_at s i)
  pub station : Under s i "station" c.station
  pub season : Under s i "season" c.season
  pub soil : Under s i "soil" c.soil
  pub layer : Under s i "layer" c.layer
  pub thick : Under s i "thick" c.thick
  pub shock : Under s i "shock" c.shock
  pub clear : Under s i "clear" c.clear
  pub wire : Under s i "wire" c.wire
  pub body : Under s i "body" c.body
  pub fault : Under s i "fault" c.fault
  pub split : Under s i "split" c.split
  pub xr : Under s i "xr" c.xr
  pub across : Under s i "across" c.across
  pub along : Under s i "along" c.along
  pub space : Under s i "space" c.space
  pub depth : Under s i "depth" c.depth
  pub dia : Under s i "dia" c.dia
  pub rods : Under s i "rods" c.rods
  pub rodlen : Under s i "rodlen" c.rodlen
  pub place : Under s i "place" c.place
  pub metal : Under s i "metal" c.metal
  pub hz : Under s i "hz" c.hz

-- "station and season both equal" those of another case
pub record SameKey (c d : Case) : Type 0 where
  pub station : c.station ≡ d.station
  pub season : c.season ≡ d.season

-- ---- a sheet that breaks none, with n value lines

pub record RulesKept (s : List ℕ) (n : ℕ) : Type 0 where
  -- §1.1, refusal 1: not "empty, over 16,384 bytes, or last byte not 10"; §1.5: "the sheet to 65,536 bytes"
  pub some_bytes : 1 ≤ length s
  pub few_bytes : length s ≤ 65536
  pub last_byte : get_or s (length s - 1) 0 ≡ 10
  -- §1.2, refusal 2: "The 18 names stand once each, in any order"; today 22
  pub name_count_lem : length (names s) ≡ 22
  pub names_known : (column : ℕ) → 1 ≤ column → column ≤ 22 → KnownName columns (field_at (names s) column)
  pub names_once : (k : ℕ) → k < 22 → StandsOnce (names s) (name_at columns k)
  -- §1.5, refusal 4: "A sheet has 1 to 64 value lines"; "Raise the limit to 256 value lines"
  pub count : n ≡ length (value_lines s)
  pub some_lines : 1 ≤ n
  pub few_lines : n ≤ 256
  -- §1.1, §1.3, refusal 3: "each later line holds values in that order"
  pub own_line : (i : ℕ) → i < n → OwnLine s i (case_at s i)
  -- §1.2, §1.4, refusals 5 and 6: every value in its range, "layer and thick are both 0 (bare soil) or both not 0. rods, rodlen and place
  -- are all 0 or all not 0."
  pub bounds : (i : ℕ) → i < n → Bounds (case_at s i)
  -- §1.6, refusal 7: no line whose "station and season both equal those of an earlier line"
  pub keys_once : (i j : ℕ) → i < j → j < n → SameKey (case_at s j) (case_at s i) → ⊥

-- §3.3: the sample sheet; "document 01's sheet and cases give each new column the value of the one it replaces", and hz is 60
pub record SampleSheet : Type 0 where
  pub breaks_none : BreaksNone sample 2
  -- "7,1,400,2500,102,500,70,3180,600,10,11,7000,500,100,0,0,0,1"
  pub dry : case_at sample 0
      ≡ case_of (7 ∷ 1 ∷ 400 ∷ 2500 ∷ 102 ∷ 500 ∷ 500 ∷ 500 ∷ 70 ∷ 3180 ∷ 600 ∷ 10 ∷ 11 ∷ 11 ∷ 7000 ∷ 500 ∷ 100 ∷ 0 ∷ 0 ∷ 0 ∷ 1 ∷ 60 ∷ [])
  -- "7,2,100,2500,102,500,70,3180,600,10,11,7000,500,100,0,0,0,1"
  pub wet : case_at sample 1
      ≡ case_of (7 ∷ 2 ∷ 100 ∷ 2500 ∷ 102 ∷ 500 ∷ 500 ∷ 500 ∷ 70 ∷ 3180 ∷ 600 ∷ 10 ∷ 11 ∷ 11 ∷ 7000 ∷ 500 ∷ 100 ∷ 0 ∷ 0 ∷ 0 ∷ 1 ∷ 60 ∷ [])

-- ---- §1.4: values of a case that must agree

-- "layer and thick are both 0 (bare soil) or both not 0."
abbrev pub SurfaceAgrees : Case → Type 0
SurfaceAgrees c = ((c.layer ≡ 0) × (c.thick ≡ 0)) ⊎ ((1 ≤ c.layer) × (1 ≤ c.thick))

-- "rods, rodlen and place are all 0 or all not 0."
abbrev pub RodsAgree : Case → Type 0
RodsAgree c = ((c.rods ≡ 0) × (c.rodlen ≡ 0) × (c.place ≡ 0)) ⊎ ((1 ≤ c.rods) × (1 ≤ c.rodlen) × (1 ≤ c.place))

-- ---- §1.5: the "programs sold earlier for the same columns"

abbrev pub AcceptedEarlier : List ℕ → ℕ → Type 0
AcceptedEarlier s n = judgement_within columns earlier s ≡ Ok n

-- n rows of theirs for a sheet, in a table that was `before`: each that of its own line, as today
pub record AnsweredEarlier (s : List ℕ) (before after : List ℤ) (n : ℕ) : Type 0 where
  pub accepted : AcceptedEarlier s n
  pub rows : TableAfter s before after (Rows n)

abbrev pub RefusedEarlier : List ℕ → ℕ → ℕ → ℕ → Type 0
RefusedEarlier s number line column = judgement_within columns earlier s ≡ refuse number line column

-- "A sheet above the old limit and otherwise right is refused by programs sold earlier for the same columns, with 1 or 4."
pub record AboveEarlier (s : List ℕ) (n : ℕ) : Type 0 where
  pub bytes_above : 16384 < length s → RefusedEarlier s 1 0 0
  pub lines_above : length s ≤ 16384 → 64 < n → RefusedEarlier s 4 66 0
