-- The line of names of a form. §2.1, §1.2: "The 18 names stand once each, in any order"; today they are 22, in the former form 18 (§8.1).
use Rattle.std.specs.Prelude.{ℕ, suc, Result}
use mathlib.Core.{Bool.{Bool, cond, ◌&&◌}, List.{List, [], ◌∷◌}}
use lib.{ListN.{length, get_or, set, replicate}, Dec.{leb, ltb, eqb}}
use Rattle.text.specs.Columns.{columns_by}
use Rattle.case.specs.Columns.{Form, name_index}

-- Below, `at` lists for each name of the form the column, from 1, in which it stands, and 0 while it has not been seen.
module _ (form : Form) where
  unfoldable pub no_columns : List ℕ
  no_columns = replicate (length form) 0

  -- a known name that stands no further left
  unfoldable pub fresh : List ℕ → List ℕ → Bool
  fresh at name = ltb (name_index form name) (length form) && eqb (get_or at (name_index form name) 0) 0

  -- the leftmost wrong column from column c on: "name unknown, or the same as one further left; or fewer than 18 names (first
  -- missing column)"; 0 where there is none
  unfoldable pub wrong_name : ℕ → List ℕ → List (List ℕ) → ℕ
  wrong_name c at [] = cond (leb c (length form)) c 0
  wrong_name c at (name ∷ names) = cond (fresh at name) (wrong_name (suc c) (set at (name_index form name) c) names) c

  -- what is said of the columns of a line of names
  unfoldable pub names_found : List (List ℕ) → Result Unit ℕ
  names_found names = columns_by (wrong_name 1 no_columns names)

  -- the columns of the names
  unfoldable pub columns_from : ℕ → List ℕ → List (List ℕ) → List ℕ
  columns_from c at [] = at
  columns_from c at (name ∷ names) = columns_from (suc c) (set at (name_index form name) c) names

  unfoldable pub columns_of : List (List ℕ) → List ℕ
  columns_of names = columns_from 1 no_columns names
