-- §1.1, §1.3: what the parts of reading a text promise.
use Rattle.std.specs.Prelude.{ℕ, zero, suc, ◌+◌, ◌<◌, ◌≤◌, Option, Some, None}
use mathlib.Core.{Path.{◌≡◌}, Bool.{cond}, List.{List, [], ◌∷◌}}
use lib.{Dec.{eqb}, ListN.{length, take, drop}}
use Rattle.text.specs.{Text.{index_of}, Value.{digits, value_of, field_value}, declared.{FirstField.{FirstField}, FrontValue.{FrontValue}}}

-- the number of a text of digits, however many
unfoldable pub digits_value : List ℕ → Option ℕ
digits_value t = cond (digits t) (Some (value_of t)) None

-- none of the first i bytes of a text is b
pub record Passed (b : ℕ) (s : List ℕ) (i : ℕ) : Type 0 where
  pub within : i ≤ length s
  pub passed : index_of b s ≡ i + index_of b (drop i s)

-- how many bytes of a text are b
unfoldable pub count_of : ℕ → List ℕ → ℕ
count_of b [] = zero
count_of b (x ∷ t) = cond (eqb x b) (suc (count_of b t)) (count_of b t)

-- the index after the byte at e, or the end of n bytes
pub record Skipped (e n r : ℕ) : Type 0 where
  pub within : r ≤ n
  pub next : e < n → r ≡ e + 1
  pub none : n ≤ e → r ≡ n

-- the first field of a line
pub record IsFirst (line : List ℕ) (r : FirstField) : Type 0 where
  pub ends : r.end ≡ index_of 44 line
  pub held : r.value ≡ field_value (take r.end line)

-- the first field of a line is a value
pub record IsFront (line : List ℕ) (v : FrontValue) : Type 0 where
  pub some : 1 ≤ v.end
  pub few : v.end ≤ 6
  pub ends : v.end ≡ index_of 44 line
  pub held : Some v.value ≡ field_value (take v.end line)
