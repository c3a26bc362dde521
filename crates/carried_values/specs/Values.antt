-- The values of a case in either form. §8.2, §8.3: "with ms copied to the three times, lines to both counts, and hz 60, columns in document
-- 01's order with new ones in place of the old and hz last. It must also go back, to document 01's own names and order".
use Prim.Native.{Nat.{ℕ}, String.{String}}
use Rattle.std.specs.Prelude.{List, [], ◌∷◌, map}
use Rattle.text.specs.Text.{fields_of}
use Rattle.case.specs.{declared.Form.{Form, TheVariants.{Present, Former}}, Columns.{columns, former_columns, named}}
use Rattle.case.specs.Columns as columns
use Rattle.header.specs.Header.{columns_of}
use Rattle.line.specs.Line.{line_values}
use Rattle.judgement.specs.Sheet.{names, value_lines}

-- the form that a sheet is carried from
unfoldable pub other : Form → Form
other Present = Former
other Former = Present

-- today's values of a case, from the former ones
unfoldable pub present_values : List ℕ → List ℕ
present_values v =
    let the : String → ℕ = named former_columns v in
    the "station" ∷ the "season" ∷ the "soil" ∷ the "layer" ∷ the "thick" ∷ the "ms" ∷ the "ms" ∷ the "ms" ∷ the "body" ∷ the "fault" ∷ the
    "split" ∷ the "xr"
    ∷ the "lines" ∷ the "lines" ∷ the "space" ∷ the "depth" ∷ the "dia" ∷ the "rods" ∷ the "rodlen" ∷ the "place" ∷ the "metal" ∷ 60 ∷ []

-- the former values of a case, from today's
unfoldable pub former_values : List ℕ → List ℕ
former_values v =
    let the : String → ℕ = named columns v in
    the "station" ∷ the "season" ∷ the "soil" ∷ the "layer" ∷ the "thick" ∷ the "shock" ∷ the "body" ∷ the "fault" ∷ the "split" ∷ the "xr"
    ∷ the "across"
    ∷ the "space" ∷ the "depth" ∷ the "dia" ∷ the "rods" ∷ the "rodlen" ∷ the "place" ∷ the "metal" ∷ []

-- the values of a case in a form, from those in the other
unfoldable pub carried : Form → List ℕ → List ℕ
carried Present v = present_values v
carried Former v = former_values v

-- the cases of a sheet of a form, in their order, each as its values in the order of the form
unfoldable pub cases_in : columns.Form → List ℕ → List (List ℕ)
cases_in form s = map (λ line. line_values (columns_of form (names s)) (fields_of line)) (value_lines s)
