-- The table of names, with their ranges: §1.2, and the former names: §8.1.
use Prim.Native.{Nat.{ℕ, zero, suc, ◌+◌}, String.{String}}
use mathlib.Core.{Bool.{Bool, cond, ◌&&◌, ◌||◌}, Path.{◌≡◌, refl}, List.{List, [], ◌∷◌, ◌++◌}}
use lib.{ListN.{length, get_or}, Dec.{leb, eqb}}
use Rattle.text.specs.Text.{bytes, same}

-- the three kinds of range: "1..4", "0 or 20..300", "50 or 70"
pub data Range : Type 0 where
  from : ℕ → ℕ → Range
  zero_or : ℕ → ℕ → Range
  either : ℕ → ℕ → Range

unfoldable pub in_range : Range → ℕ → Bool
in_range (from low high) v = leb low v && leb v high
in_range (zero_or low high) v = eqb v 0 || leb low v && leb v high
in_range (either a b) v = eqb v a || eqb v b

pub record Column : Type 0 where
  pub name : List ℕ
  pub range : Range

-- a form of sheet: its table of names
abbrev pub Form : Type 0
Form = List Column

abbrev column : String → Range → Column
column name range = record { name = bytes name; range = range }

-- the columns, each with its range: the former ones, and those that have replaced ms and lines or were added
abbrev station : Column
station = column "station" (from 1 65535)

abbrev season : Column
season = column "season" (from 1 4)

abbrev soil : Column
soil = column "soil" (from 10 5000)

abbrev layer : Column
layer = column "layer" (zero_or 100 10000)

abbrev thick : Column
thick = column "thick" (zero_or 20 300)

-- "each 9..3000", as ms was
abbrev time : String → Column
time name = column name (from 9 3000)

abbrev body : Column
body = column "body" (either 50 70)

abbrev fault : Column
fault = column "fault" (from 100 80000)

abbrev split : Column
split = column "split" (from 1 1000)

abbrev xr : Column
xr = column "xr" (from 1 40)

-- "each 2..25", as lines was
abbrev conductors : String → Column
conductors name = column name (from 2 25)

abbrev space : Column
space = column "space" (from 2500 30000)

abbrev depth : Column
depth = column "depth" (from 250 2500)

abbrev dia : Column
dia = column "dia" (from 50 300)

abbrev rods : Column
rods = column "rods" (from 0 200)

abbrev rodlen : Column
rodlen = column "rodlen" (zero_or 1000 10000)

abbrev place : Column
place = column "place" (from 0 2)

abbrev metal : Column
metal = column "metal" (from 1 11)

-- "A column hz, 50 or 60"
abbrev hz : Column
hz = column "hz" (either 50 60)

-- §8.1: the former names, in their order
unfoldable pub former_columns : Form
former_columns =
    station ∷ season ∷ soil ∷ layer ∷ thick ∷ time "ms" ∷ body ∷ fault ∷ split ∷ xr ∷ conductors "lines" ∷ space ∷ depth ∷ dia ∷ rods ∷
    rodlen ∷ place
    ∷ metal ∷ []

-- §1.2: today's names: "ms gives place to shock, clear and wire in that order"; "The column lines becomes across and along in that order";
-- "A column hz, 50 or 60, is added last"
unfoldable pub columns : Form
columns =
    station ∷ season ∷ soil ∷ layer ∷ thick ∷ time "shock" ∷ time "clear" ∷ time "wire" ∷ body ∷ fault ∷ split ∷ xr ∷ conductors "across"
    ∷ conductors "along" ∷ space ∷ depth ∷ dia ∷ rods ∷ rodlen ∷ place ∷ metal ∷ hz ∷ []

-- the columns of both forms: today's, then those that only the former has
unfoldable pub all_columns : Form
all_columns = columns ++ (time "ms" ∷ conductors "lines" ∷ [])

-- how many they are
abbrev pub name_count : ℕ
name_count = 22

abbrev pub former_name_count : ℕ
former_name_count = 18

abbrev pub all_count : ℕ
all_count = name_count + 2

pub name_count_lem : length columns ≡ name_count
unfolding columns
name_count_lem = refl

pub former_name_count_lem : length former_columns ≡ former_name_count
unfolding former_columns
former_name_count_lem = refl

pub all_count_lem : length all_columns ≡ all_count
unfolding columns all_columns
all_count_lem = refl

-- the index of a name in a form, from 0, or the form's length where it is none of the names
unfoldable pub name_index : Form → List ℕ → ℕ
name_index [] name = zero
name_index (c ∷ form) name = cond (same name c.name) zero (suc (name_index form name))

-- what a list in the order of a form has for a name: of columns the name's column, of values its value
unfoldable pub named : Form → List ℕ → String → ℕ
named form list name = get_or list (name_index form (bytes name)) 0
