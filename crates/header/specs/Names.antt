-- The names of a first line in words: where each stands, and what is wrong with a name. §1.2, §2.1, §2.2.
use Rattle.std.specs.Prelude.{ℕ, ◌+◌, ◌-◌, ◌≤◌, ◌<◌}
use mathlib.Core.{Path.{◌≡◌}, List.{List, []}}
use Rattle.std.specs.Prelude.{length, get_or}
use Rattle.case.specs.Columns.{Form}
use Rattle.header.specs.Parts.{name_at}

-- the field in a column of a line, from 1
abbrev pub field_at : List (List ℕ) → ℕ → List ℕ
field_at fields column = get_or fields (column - 1) []

-- a name stands in a column
pub record StandsAt (fields : List (List ℕ)) (name : List ℕ) (column : ℕ) : Type 0 where
  pub first : 1 ≤ column
  pub last : column ≤ length fields
  pub is : field_at fields column ≡ name

-- and in no other
pub record StandsOnce (fields : List (List ℕ)) (name : List ℕ) : Type 0 where
  pub column : ℕ
  pub stands : StandsAt fields name column
  pub only : (other : ℕ) → StandsAt fields name other → other ≡ column

-- one of the names of a form
pub record KnownName (form : Form) (name : List ℕ) : Type 0 where
  pub index : ℕ
  pub within : index < length form
  pub is : name ≡ name_at form index

-- "name unknown, or the same as one further left; or fewer than 18 names (first missing column)", as many as the form has
pub data WrongName (form : Form) (fields : List (List ℕ)) (column : ℕ) : Type 0 where
  unknown : 1 ≤ column → column ≤ length fields → (KnownName form (field_at fields column) → ⊥) → WrongName form fields column
  again : column ≤ length fields → (left : ℕ) → left < column → StandsAt fields (field_at fields column) left → WrongName form fields column
  missing : length fields < length form → column ≡ length fields + 1 → WrongName form fields column

-- "Within one number the leftmost column comes first": this column is wrong, and none further left
pub record Leftmost (Wrong : ℕ → Type 0) (column : ℕ) : Type 0 where
  pub here : Wrong column
  pub first : (left : ℕ) → left < column → ¬ Wrong left

-- no column is wrong
abbrev pub None : (ℕ → Type 0) → Type 0
None Wrong = (column : ℕ) → ¬ Wrong column
