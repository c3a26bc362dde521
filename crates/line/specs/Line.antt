-- A value line: its form, its values and its case. §1.1, §1.3, §2.1.
use Rattle.std.specs.Prelude.{ℕ, suc, ◌-◌, Result}
use mathlib.Core.{Bool.{cond, ◌&&◌}, List.{List, [], ◌∷◌, map}}
use lib.{ListN.{get_or}, Dec.{leb}}
use Rattle.text.specs.{Value.{is_value, value_of}, Columns.{columns_by}}
use Rattle.case.specs.{declared.Case.{Case}, Case.{case_of}}

-- "value of a wrong form; too few values (first missing column); too many (19)": the leftmost wrong column from column c on of a form of n
-- names, or 0; the surplus column is one past the names
unfoldable pub wrong_form : ℕ → ℕ → List (List ℕ) → ℕ
wrong_form n c [] = cond (leb c n) c 0
wrong_form n c (field ∷ fields) = cond (leb c n && is_value field) (wrong_form n (suc c) fields) c

-- what is said of the columns of a line's fields
unfoldable pub form_found : ℕ → List (List ℕ) → Result Unit ℕ
form_found n fields = columns_by (wrong_form n 1 fields)

-- the values of a line's fields in the order of the form, where `at` lists the columns of its names
unfoldable pub line_values : List ℕ → List (List ℕ) → List ℕ
line_values at fields = map (λ c. get_or (map value_of fields) (c - 1) 0) at

-- the case of a line of today's form
unfoldable pub line_case : List ℕ → List (List ℕ) → Case
line_case at fields = case_of (line_values at fields)
