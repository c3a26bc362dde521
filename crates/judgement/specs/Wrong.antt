-- The fields of a value line in words: the right form, and what is wrong with it. §1.3, §2.1.
use Rattle.std.specs.Prelude.{ℕ, ◌+◌, ◌≤◌, ◌<◌}
use mathlib.Core.{Path.{◌≡◌}, Bool.{true, false}, List.{List}}
use Rattle.std.specs.Prelude.{length}
use Rattle.text.specs.Value.{is_value}
use Rattle.header.specs.Names.{field_at}

-- a value for each of some names
pub record RightValues (count : ℕ) (fields : List (List ℕ)) : Type 0 where
  pub all : length fields ≡ count
  pub each : (column : ℕ) → 1 ≤ column → column ≤ count → is_value (field_at fields column) ≡ true

-- "value of a wrong form; too few values (first missing column); too many (19)", one past the names
pub data WrongValues (count : ℕ) (fields : List (List ℕ)) (column : ℕ) : Type 0 where
  wrong_form_lem : 1 ≤ column → column ≤ count → column ≤ length fields → is_value (field_at fields column) ≡ false
      → WrongValues count fields column
  too_few : length fields < count → column ≡ length fields + 1 → WrongValues count fields column
  too_many : count < length fields → column ≡ count + 1 → WrongValues count fields column
