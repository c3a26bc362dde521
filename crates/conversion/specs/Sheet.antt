-- §8.2, §8.3: a sheet of cases, each as its values in the order of a form.
use Rattle.std.specs.Prelude.{ℕ, List, map}
use Rattle.writing.specs.Text.{parted, ended, sheet_text}
use Rattle.case.specs.Columns.{Form}

-- the line of names of a form, with its byte 10
unfoldable pub names_line : Form → List ℕ
names_line form = ended (parted (map (λ c. c.name) form))

-- the sheet of some cases, its names in the order of the form
unfoldable pub sheet_of : Form → List (List ℕ) → List ℕ
sheet_of form cases = sheet_text (map (λ c. c.name) form) cases
