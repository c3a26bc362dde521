-- §1.2: what the parts of reading a header promise.
use Rattle.std.specs.Prelude.{ℕ, ◌-◌, ◌≤◌, Option, Some, None, Result, Ok}
use mathlib.Core.{Path.{◌≡◌}, Bool.{cond}, List.{List, ◌++◌}}
use lib.{ListN.{length, get_or, take, replicate}, Dec.{ltb}}
use Rattle.text.specs.Text.{fields_of}
use Rattle.case.specs.{Columns.{Column, Form, name_index}, Bounds.{Placed}, Order.{Ordered}, Parts.{no_column}}
use Rattle.header.specs.declared.names.Spelling.{Spelling}
use Rattle.header.specs.Header.{names_found, columns_of}

-- the name with index k
unfoldable pub name_at : Form → ℕ → List ℕ
name_at form k = (get_or form k no_column).name

-- the first len bytes of a text are a name
pub record Spells (text : List ℕ) (len : ℕ) (name : List ℕ) : Type 0 where
  pub fits : len ≤ length text
  pub is : take len text ≡ name

-- a column's name, filled up with spaces to seven bytes
unfoldable pub in_code : Column → Spelling
in_code c = (c.name ++ replicate (7 - length c.name) 32, length c.name)

-- the index of a name, where it is one of the form's
unfoldable pub found_name : Form → List ℕ → Option ℕ
found_name form name = cond (ltb (name_index form name) (length form)) (Some (name_index form name)) None

-- the columns of a line of names, and the names of its columns
pub record Header (form : Form) (line : List ℕ) (found : Result Unit ℕ) (at order : List ℕ) : Type 0 where
  pub found_is : found ≡ names_found form (fields_of line)
  pub at_is : found ≡ Ok tt → at ≡ columns_of form (fields_of line)
  pub placed : found ≡ Ok tt → Placed (length form) at
  pub ordered : found ≡ Ok tt → Ordered (length form) at order
  pub columns_all : length at ≡ length form
  pub order_all : length order ≡ length form
