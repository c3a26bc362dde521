-- §1.1: the case of a value line has for each name the number under it.
use Prim.Native.{Nat.{ℕ, zero, suc, ◌-◌, ◌<◌}, String.{String}}
use mathlib.Core.{Path.{◌≡◌, refl, sym, ◌∙◌}, List.{List, [], ◌∷◌, map}}
use native.Mathlib.Omega.{arith}
use lib.ListN.{length, get_or, length-map, get_or-map}
use Rattle.text.specs.{Text.{bytes, same}, Value.{number_from, value_of}}
use Rattle.case.specs.{Case.{case_of}, Columns.{Form, columns, name_count_lem, name_index, named}}
use Rattle.header.specs.{Header.{columns_of}, Names.{field_at, StandsAt, WrongName, None}}
use Rattle.header.proofs.{HeaderAccepted.{header_accepted}, NameIndices.{index_name}}
use Rattle.header.proofs.NamesStand.{Named, names_stand, name_stands, no_wrong_name}
use Rattle.line.specs.Line.{wrong_form, line_values, line_case}
use Rattle.judgement.{specs.{Sheet.{names, value_lines}, Wrong.{RightValues}}, proofs.ValueFields.{right_values}}
use Rattle.judgement.proofs.Causes.{wrong_column}
use Rattle.sheet.{specs.Answer.{cases}, proofs.StoredCases.{case_at_lem}}
use Rattle.claims.specs.{Words.{case_at}, Rules.{fields_at, Under, OwnLine}}

map_at : (f : ℕ → ℕ) (l : List ℕ) (k : ℕ) → k < length l → get_or (map f l) k 0 ≡ f (get_or l k 0)
map_at f [] k h = absurd (omega arith)
map_at f (x ∷ l) zero h = refl
map_at f (x ∷ l) (suc k) h = map_at f l k (omega arith)

-- the value with index k is the number in the column of the name with index k
pub value_at : (at : List ℕ) (fields : List (List ℕ)) (k : ℕ) → k < length at
    → get_or (line_values at fields) k 0 ≡ value_of (field_at fields (get_or at k 0))
unfolding line_values value_of number_from
value_at at fields k h = map_at (λ c. get_or (map value_of fields) (c - 1) 0) at k h ∙ get_or-map value_of fields (get_or at k 0 - 1) []

-- fields that are right by the count of the form's names
pub right_fields : (fields : List (List ℕ)) → wrong_form (length columns) 1 fields ≡ 0 → RightValues 22 fields
right_fields fields e = rw name_count_lem at (right_values (length columns) fields e)

-- ---- a sheet of a form whose names are right

module _ (form : Form) (s : List ℕ) where
  -- the columns of its names, and the values of value line i in the order of the form
  abbrev pub columns_in : List ℕ
  columns_in = columns_of form (names s)

  abbrev pub values_in : ℕ → List ℕ
  values_in i = line_values columns_in (fields_at s i)

  module _ (right : wrong_column form s ≡ 0) where
    pub stand : Named form (names s) columns_in
    stand = names_stand form (names s) right

    pub columns_count : length columns_in ≡ length form
    columns_count = (header_accepted form (names s) right).count

    pub values_count : (i : ℕ) → length (values_in i) ≡ length form
    unfolding line_values
    values_count i = length-map columns_in _ ∙ columns_count

    pub names_right : None (WrongName form (names s))
    names_right = no_wrong_name stand

    module _ (name : String) (h : name_index form (bytes name) < length form) where
      pub stands_at : StandsAt (names s) (bytes name) (named form columns_in name)
      unfolding named
      stands_at =
          let t = name_stands stand (name_index form (bytes name)) h in
          record { first = t.first; last = t.last; is = t.is ∙ sym (index_name form (bytes name) h) }

      -- the number under a name
      pub under : (i : ℕ) → Under s i name (named form (values_in i) name)
      unfolding named
      under i =
          record {
            column = get_or columns_in (name_index form (bytes name)) 0;
            named = stands_at;
            number = value_at columns_in (fields_at s i) (name_index form (bytes name)) (omega (arith, columns_count));
          }

-- ---- a sheet of today's names

abbrev pub values_at : List ℕ → ℕ → List ℕ
values_at s i = values_in columns s i

module _ (s : List ℕ) (i : ℕ) (h : i < length (value_lines s)) where
  pub case_is : case_at s i ≡ case_of (values_at s i)
  unfolding cases line_case
  case_is = case_at_lem (columns_in columns s) (value_lines s) i h

  module _ (right : wrong_column columns s ≡ 0) where
    pub own_line : RightValues 22 (fields_at s i) → OwnLine s i (case_at s i)
    unfolding columns named name_index same
    own_line v =
        rw case_is
        (record {
          within = h;
          values = v;
          station = under columns s right "station" (omega arith) i;
          season = under columns s right "season" (omega arith) i;
          soil = under columns s right "soil" (omega arith) i;
          layer = under columns s right "layer" (omega arith) i;
          thick = under columns s right "thick" (omega arith) i;
          shock = under columns s right "shock" (omega arith) i;
          clear = under columns s right "clear" (omega arith) i;
          wire = under columns s right "wire" (omega arith) i;
          body = under columns s right "body" (omega arith) i;
          fault = under columns s right "fault" (omega arith) i;
          split = under columns s right "split" (omega arith) i;
          xr = under columns s right "xr" (omega arith) i;
          across = under columns s right "across" (omega arith) i;
          along = under columns s right "along" (omega arith) i;
          space = under columns s right "space" (omega arith) i;
          depth = under columns s right "depth" (omega arith) i;
          dia = under columns s right "dia" (omega arith) i;
          rods = under columns s right "rods" (omega arith) i;
          rodlen = under columns s right "rodlen" (omega arith) i;
          place = under columns s right "place" (omega arith) i;
          metal = under columns s right "metal" (omega arith) i;
          hz = under columns s right "hz" (omega arith) i;
        })
