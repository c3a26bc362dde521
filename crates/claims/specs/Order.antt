-- §2.1, §2.2, §2.3: the first rule that a sheet breaks, in the specification's words, of its text: "The order is 1, 2, 4; then line by line
-- 3, 5, 6, 7; then 8. Within one number the leftmost column comes first, and for 6 layer comes before rods." The form is the table of the
-- sheet's names: today's 22 (§1.2), or the former 18 (§8.1). Columns count from 1; value lines count from 0, so that value line i is line i
-- + 2 of the sheet.
use Rattle.std.specs.Prelude.{ℕ, ◌+◌, ◌-◌, ◌<◌}
use mathlib.Core.{Path.{◌≡◌}, Bool.{false}, Logic.{◌⊎◌}, List.{List}}
use Rattle.std.specs.Prelude.{length, get_or}
use Rattle.text.specs.{Text.{bytes}, Value.{value_of}}
use Rattle.case.specs.{Columns.{Form, in_range}, Parts.{range_at}}
use Rattle.header.specs.{Parts.{name_at}, Names.{field_at, StandsAt, WrongName, Leftmost, None}}
use Rattle.judgement.specs.{Sheet.{names, value_lines}, Wrong.{WrongValues}}
use Rattle.claims.specs.Rules.{fields_at, Under}

-- ---- the conditions

-- 1: "sheet empty, over 16,384 bytes, or last byte not 10"; §1.5: "the sheet to 65,536 bytes"
abbrev pub WrongText : List ℕ → Type 0
WrongText s = (length s ≡ 0) ⊎ ((65536 < length s) ⊎ ¬ (get_or s (length s - 1) 0 ≡ 10))

-- 4: "no value line (line 2), or more than 64 (line 66)"; §1.5: "Refusal 4 for too many lines now names line 258"
pub data WrongCount (s : List ℕ) : ℕ → Type 0 where
  none : length (value_lines s) ≡ 0 → WrongCount s 2
  many : 256 < length (value_lines s) → WrongCount s 258

-- 5: "value out of its range": that of the name that stands in the column, with its index in the table of names
pub record OutOfRange (form : Form) (s : List ℕ) (i column : ℕ) : Type 0 where
  pub index : ℕ
  pub known : index < length form
  pub named : StandsAt (names s) (name_at form index) column
  pub outside : in_range (range_at form index) (value_of (field_at (fields_at s i) column)) ≡ false

-- 6: "layer and thick are both 0 (bare soil) or both not 0."
abbrev pub LayerAgreesAt : List ℕ → ℕ → Type 0
LayerAgreesAt s i = (Under s i "layer" 0 × Under s i "thick" 0) ⊎ (¬ Under s i "layer" 0 × ¬ Under s i "thick" 0)

-- "rods, rodlen and place are all 0 or all not 0."
abbrev pub RodsAgreeAt : List ℕ → ℕ → Type 0
RodsAgreeAt s i =
    (Under s i "rods" 0 × Under s i "rodlen" 0 × Under s i "place" 0)
    ⊎ (¬ Under s i "rods" 0 × ¬ Under s i "rodlen" 0 × ¬ Under s i "place" 0)

-- 7: "station and season both equal those of an earlier line"
pub record Repeats (s : List ℕ) (i : ℕ) : Type 0 where
  pub line : ℕ
  pub earlier : line < i
  pub station : ℕ
  pub season : ℕ
  pub here : Under s i "station" station × Under s i "season" season
  pub there : Under s line "station" station × Under s line "season" season

-- ---- "line by line 3, 5, 6, 7"

-- value line i breaks neither 3 nor 5
pub record InRange (form : Form) (s : List ℕ) (i : ℕ) : Type 0 where
  pub values : None (WrongValues (length form) (fields_at s i))
  pub ranges : None (OutOfRange form s i)

-- nor 6
pub record Agrees (form : Form) (s : List ℕ) (i : ℕ) : Type 0 where
  pub in_range_lem : InRange form s i
  pub layer : LayerAgreesAt s i
  pub rods : RodsAgreeAt s i

-- nor 7
pub record LineKept (form : Form) (s : List ℕ) (i : ℕ) : Type 0 where
  pub agrees : Agrees form s i
  pub new : ¬ Repeats s i

-- the first that it breaks, with its number and column
pub data LineBroken (form : Form) (s : List ℕ) (i : ℕ) : ℕ → ℕ → Type 0 where
  -- "3, line, column": "value of a wrong form; too few values (first missing column); too many (19)"
  value : {column : ℕ} → Leftmost (WrongValues (length form) (fields_at s i)) column → LineBroken form s i 3 column
  -- "5, line, column": "value out of its range"
  range : {column : ℕ} → None (WrongValues (length form) (fields_at s i)) → Leftmost (OutOfRange form s i) column
      → LineBroken form s i 5 column
  -- "6, line, column": "layer and thick disagree (column of layer); rods, rodlen, place disagree (column of rods)"
  layer : {column : ℕ} → InRange form s i → ¬ LayerAgreesAt s i → StandsAt (names s) (bytes "layer") column → LineBroken form s i 6 column
  rods : {column : ℕ} → InRange form s i → LayerAgreesAt s i → ¬ RodsAgreeAt s i → StandsAt (names s) (bytes "rods") column
      → LineBroken form s i 6 column
  -- "7, line, 0": "station and season both equal those of an earlier line"
  repeated : Agrees form s i → Repeats s i → LineBroken form s i 7 0

-- ---- "The order is 1, 2, 4; then line by line"

-- no rule is broken before those of value line i
pub record Reached (form : Form) (s : List ℕ) (i : ℕ) : Type 0 where
  pub text : ¬ WrongText s
  pub name : None (WrongName form (names s))
  pub count : None (WrongCount s)
  pub lines : (j : ℕ) → j < i → LineKept form s j

-- each row of the table "returned (number, line, column)" with its "condition", where no rule before it is broken
pub data FirstBroken (form : Form) (s : List ℕ) : ℕ → ℕ → ℕ → Type 0 where
  -- "1, 0, 0"
  text : WrongText s → FirstBroken form s 1 0 0
  -- "2, 1, column": "name unknown, or the same as one further left; or fewer than 18 names (first missing column)"
  name : {column : ℕ} → ¬ WrongText s → Leftmost (WrongName form (names s)) column → FirstBroken form s 2 1 column
  -- "4, line, 0"
  count : {line : ℕ} → ¬ WrongText s → None (WrongName form (names s)) → WrongCount s line → FirstBroken form s 4 line 0
  -- "then line by line 3, 5, 6, 7"
  line : {number column : ℕ} (i : ℕ) → i < length (value_lines s) → Reached form s i → LineBroken form s i number column
      → FirstBroken form s number (i + 2) column

-- a sheet of n value lines that breaks none
pub record NoneBroken (form : Form) (s : List ℕ) (n : ℕ) : Type 0 where
  pub count : n ≡ length (value_lines s)
  pub reached : Reached form s n
