-- §1.2: the names of the columns of a header, by their indices: the inverse of the columns of the names.
use Rattle.std.specs.Prelude.{ℕ, ◌+◌, ◌-◌, ◌<◌}
use mathlib.Core.{Path.{◌≡◌}, List.{List}}
use Rattle.std.specs.Prelude.{length, get_or}

-- each of n columns has a name of its own
pub record Distinct (n : ℕ) (order : List ℕ) : Type 0 where
  pub count : length order ≡ n
  pub within : (i : ℕ) → i < n → get_or order i 0 < n
  pub distinct : (i j : ℕ) → i < n → j < n → get_or order i 0 ≡ get_or order j 0 → i ≡ j

-- `order` lists the index of each column's name, where `at` lists the columns of n names, from 1
pub record Ordered (n : ℕ) (at order : List ℕ) : Type 0 where
  pub count : length order ≡ n
  pub within : (i : ℕ) → i < n → get_or order i 0 < n
  pub column_of : (i : ℕ) → i < n → get_or at (get_or order i 0) 0 ≡ i + 1
  pub name_of : (k : ℕ) → k < n → get_or order (get_or at k 0 - 1) 0 ≡ k
