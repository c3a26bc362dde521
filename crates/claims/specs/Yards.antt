-- §6.7: the fewest lines for a given side, over sides, counts and spacings.
use Rattle.std.specs.Prelude.{ℕ, suc, ◌+◌, ◌*◌, ◌-◌, ◌≤◌, ◌<◌}
use mathlib.Core.{Path.{◌≡◌}, Logic.{◌⊎◌}}
use Rattle.case.specs.{declared.Case.{Case}, Bounds.{Between}}
use Rattle.decision.specs.declared.Verdict.TheVariants.{Safe}
use Rattle.hocsimbur.specs.{Asked.{RowAnswered, AnsweredWith}}
use Rattle.claims.specs.{Words.{TrulySafe}, Rules.{RodsAgree}, Record.{RecordRefused, RecordSound}}
use Rattle.std.specs.Prelude.{Result, Ok}
use Rattle.refusal.specs.{declared.Refused.{Refused}, Refused.{refuse}}
use Rattle.row.specs.declared.Row.{Row}
use Rattle.yards.specs.declared.FewestLines.{FewestLines}
use Rattle.yards.specs.declared.FewestLines.TheVariants.{Found, None}

-- a case with other counts, spacing, rods, rod length and place, all else equal
abbrev pub with_yard : (across along space rods rodlen place : ℕ) → Case → Case
with_yard across along space rods rodlen place c =
    record {
      station = c.station;
      season = c.season;
      soil = c.soil;
      layer = c.layer;
      thick = c.thick;
      shock = c.shock;
      clear = c.clear;
      wire = c.wire;
      body = c.body;
      fault = c.fault;
      split = c.split;
      xr = c.xr;
      across = across;
      along = along;
      space = space;
      depth = c.depth;
      dia = c.dia;
      rods = rods;
      rodlen = rodlen;
      place = place;
      metal = c.metal;
      hz = c.hz;
    }

-- ---- the yards tried

-- "try line counts 2 to 25 rising, .. skipping a count where the side is not a whole multiple of count minus 1 or the spacing is out of
-- range"
pub record Fits (side lines space : ℕ) : Type 0 where
  pub counts : Between 2 lines 25
  pub multiple : space * (lines - 1) ≡ side
  pub spacing : Between 2500 space 30000

-- y is the yard with so many lines, "the same across and along", and four times k rods: "For each count try 0, 4, 8 up to 40 rods of the
-- case's rod length at the perimeter"; "A yard without rods has rod length and place 0."
pub record YardTried (c : Case) (side lines k : ℕ) (y : Case) : Type 0 where
  pub space : ℕ
  pub fits : Fits side lines space
  pub rods : k ≤ 10
  pub without_rods : k ≡ 0 → y ≡ with_yard lines lines space 0 0 0 c
  pub with_rods : 1 ≤ k → y ≡ with_yard lines lines space (4 * k) c.rodlen 1 c

-- lines and rods that come before others: "line counts .. rising", and for each count the rods rising
abbrev pub Before : ℕ → ℕ → ℕ → ℕ → Type 0
Before l j lines k = (l < lines) ⊎ ((l ≡ lines) × (j < k))

-- of n counts, from a first one on, so many fit the side
pub data Fitting (side : ℕ) : (first n many : ℕ) → Type 0 where
  none : {first : ℕ} → Fitting side first 0 0
  fits : {first n many space : ℕ} → Fits side first space → Fitting side (first + 1) n many → Fitting side first (suc n) (suc many)
  skipped : {first n many : ℕ} → ((space : ℕ) → ¬ Fits side first space) → Fitting side (first + 1) n many
      → Fitting side first (suc n) many

-- ---- the answers

-- "a yard answered safe", by the question for its row, and safe for its exact voltages
pub record SafeYard (y : Case) : Type 0 where
  pub answered : {r : Result Row Refused} → RowAnswered y r → AnsweredWith Safe r
  pub truly : TrulySafe y

abbrev pub NotSafe : Case → Type 0
NotSafe y = (r : Result Row Refused) → RowAnswered y r → ¬ AnsweredWith Safe r

-- "stop at the first yard answered safe. The answer gives that yard's line and rod counts."
pub record FoundYard (c : Case) (side lines rods tried : ℕ) : Type 0 where
  pub fours : ℕ
  pub rods_are : rods ≡ 4 * fours
  pub yard : Case
  pub is_tried : YardTried c side lines fours yard
  pub safe : SafeYard yard
  pub first : (l j : ℕ) (y : Case) → YardTried c side l j y → Before l j lines fours → NotSafe y
  -- "The number of yards tried is reported, at most 264, and is the place of the found yard in that order": eleven for each count that fits
  -- before it
  pub most : tried ≤ 264
  pub fitting : ℕ
  pub counts_before : Fitting side 2 (lines - 2) fitting
  pub place : tried ≡ 11 * fitting + fours + 1

-- "None is answered only if no yard tried is safe."
pub record NoYard (c : Case) (side tried : ℕ) : Type 0 where
  pub none : (l j : ℕ) (y : Case) → YardTried c side l j y → NotSafe y
  pub most : tried ≤ 264
  -- "or the whole list's length"
  pub fitting : ℕ
  pub counts : Fitting side 2 24 fitting
  pub whole : tried ≡ 11 * fitting

-- y has other counts, spacing, rods and place than c, all else equal
abbrev pub OtherYard : Case → Case → Type 0
OtherYard c y = y ≡ with_yard y.across y.along y.space y.rods c.rodlen y.place c

-- "The case's own counts, spacing, rods and place are not read, nor compared with rodlen": y has others in their place, which no check
-- refuses
pub record StandsIn (c y : Case) : Type 0 where
  pub is : OtherYard c y
  pub across : Between 2 y.across 25
  pub along : Between 2 y.along 25
  pub space : Between 2500 y.space 30000
  pub rods : y.rods ≤ 200
  pub place : y.place ≤ 2
  pub agrees : RodsAgree y

-- its other values pass the checks
pub record Askable (c : Case) : Type 0 where
  pub other : Case
  pub stands : StandsIn c other
  pub sound : RecordSound other

-- every answer, each with its condition
pub data FewestOutcome (c : Case) (side : ℕ) : Result FewestLines Refused → Type 0 where
  -- "its other values follow document 01's checks for one case, which come first"
  checks : {number line column : ℕ} (y : Case) → StandsIn c y → RecordRefused y number line column
      → FewestOutcome c side (refuse number line column)
  -- "15 when the side is out of range": "a square side in mm (2,500..720,000)"
  side_outside : Askable c → ¬ Between 2500 side 720000 → FewestOutcome c side (refuse 15 0 0)
  -- "16 when the rod length is 0"
  no_rod : Askable c → Between 2500 side 720000 → c.rodlen ≡ 0 → FewestOutcome c side (refuse 16 0 0)
  found : {lines rods tried : ℕ} → Askable c → Between 2500 side 720000 → 1 ≤ c.rodlen → FoundYard c side lines rods tried
      → FewestOutcome c side (Ok (Found lines rods tried))
  none : {tried : ℕ} → Askable c → Between 2500 side 720000 → 1 ≤ c.rodlen → NoYard c side tried → FewestOutcome c side (Ok (None tried))
