-- A table divided into parts of equal width: the rows of a table of results (§3.1), the lines of a store of values.
use Rattle.std.specs.Prelude.{ℕ, zero, suc, ◌+◌, ◌*◌, ◌<◌}
use mathlib.Core.{Path.{◌≡◌}, List.{List, [], ◌∷◌}}
use Rattle.std.specs.Prelude.{length, take, drop}

-- part i, from 0
abbrev pub part_at : {A : Type 0} → ℕ → List A → ℕ → List A
part_at width table i = take width (drop (width * i) table)

-- the first n parts
unfoldable pub parts_of : {A : Type 0} → ℕ → ℕ → List A → List (List A)
parts_of width zero table = []
parts_of width (suc n) table = take width table ∷ parts_of width n (drop width table)

-- part i of a table is written, and nothing else of it
pub record Written {A : Type 0} (width i : ℕ) (part before after : List A) : Type 0 where
  pub size : length after ≡ length before
  pub part_is : part_at width after i ≡ part
  pub front : take (width * i) after ≡ take (width * i) before
  pub back : drop (width * i + width) after ≡ drop (width * i + width) before

-- the first n parts are written, each right for its place, and nothing past them
pub record Filled {A : Type 0} (width : ℕ) (Right : ℕ → List A → Type 0) (n : ℕ) (before after : List A) : Type 0 where
  pub size : length after ≡ length before
  pub parts : (i : ℕ) → i < n → Right i (part_at width after i)
  pub rest : drop (width * n) after ≡ drop (width * n) before
