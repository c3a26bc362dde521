-- §1.1, §1.3: what the parts of reading a value line promise.
use Rattle.std.specs.Prelude.{ℕ, ◌+◌, ◌≤◌, ◌<◌}
use mathlib.Core.{Path.{◌≡◌}, List.{List, map}}
use Rattle.std.specs.Prelude.{length, get_or, Result, Ok}
use Rattle.text.specs.{Text.{fields_of}, Value.{value_of}}
use Rattle.line.specs.Line.{wrong_form, form_found}

-- the values of a line of n columns, each at the index of its column's name
pub record LineValues (n : ℕ) (order line : List ℕ) (found : Result Unit ℕ) (row : List ℕ) : Type 0 where
  pub found_is : found ≡ form_found n (fields_of line)
  pub count : length row ≡ n
  pub values : found ≡ Ok tt → (i : ℕ) → i < n → get_or row (get_or order i 0) 0 ≡ get_or (map value_of (fields_of line)) i 0

-- while the fields fs of a line are left, and the values of its first c columns are put at the indices of their names
pub record ValuesAt (n : ℕ) (order : List ℕ) (all : List (List ℕ)) (row : List ℕ) (fs : List (List ℕ)) (c : ℕ) : Type 0 where
  pub count : length row ≡ n
  pub most : c ≤ n
  pub wrong_left : wrong_form n 1 all ≡ wrong_form n (c + 1) fs
  pub values_left : (i : ℕ) → get_or (map value_of all) (c + i) 0 ≡ get_or (map value_of fs) i 0
  pub values_put : (i : ℕ) → i < c → get_or row (get_or order i 0) 0 ≡ get_or (map value_of all) i 0
