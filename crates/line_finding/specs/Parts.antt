-- §1.6, §2.2: what the checks of a value line promise.
use Rattle.std.specs.Prelude.{ℕ, zero, suc, ◌+◌, ◌*◌, ◌/◌, ◌%◌, ◌^◌, ◌≤◌, ◌<◌}
use mathlib.Core.{Path.{◌≡◌}, Bool.{Bool, false, ◌||◌}, List.{List, [], ◌∷◌}}
use lib.{Dec.{eqb}, ListN.{length, get_or}}
use Rattle.text.specs.Text.{fields_of}
use Rattle.case.specs.Columns.{Form}
use Rattle.line.specs.Line.{line_values}
use Rattle.line_finding.specs.{declared.LineFinding.{TheVariants.{Sound}, LineFinding}, Findings.{line_finding}}

-- values of which only station and season, the first two, are kept
unfoldable pub key_of : ℕ → ℕ → List ℕ
key_of station season = station ∷ season ∷ []

-- a station and a season that fit one number of 32 bits, as those of a sound line do
pub record Keyable (station season : ℕ) : Type 0 where
  pub station_few : station < 2 ^ 29
  pub season_few : season < 8

-- that number
unfoldable pub packed : ℕ → ℕ → ℕ
packed station season = station * 8 + season

-- the first n keys of an array of such numbers, the latest first
unfoldable pub keys_of : List ℕ → ℕ → List (List ℕ)
keys_of keys zero = []
keys_of keys (suc n) = key_of (get_or keys n 0 / 8) (get_or keys n 0 % 8) ∷ keys_of keys n

-- a number is among the first n of an array
unfoldable pub seen_in : ℕ → List ℕ → ℕ → Bool
seen_in key keys zero = false
seen_in key keys (suc n) = eqb key (get_or keys n 0) || seen_in key keys n

-- no number of the first n of an array is above `most`
pub record AtMost (keys : List ℕ) (n most : ℕ) : Type 0 where
  pub above : (j : ℕ) → j < n → get_or keys j 0 ≤ most

-- what the checks of a line find, after the values of earlier lines, and its values in the order of the names
pub record Checks (form : Form) (at : List ℕ) (earlier : List (List ℕ)) (line : List ℕ) (found : LineFinding) (row : List ℕ) : Type 0 where
  pub found_is : found ≡ line_finding form at earlier (fields_of line)
  pub row_is : found ≡ Sound → row ≡ line_values at (fields_of line)
  pub count : length row ≡ length form
  pub keyable : found ≡ Sound → Keyable (get_or row 0 0) (get_or row 1 0)
