-- The form of a value, by its length and its first byte.
use Rattle.std.proofs.Common.{None, ℕ, ◌<◌, ◌≤◌, length, get_or, arith, eq-eqb, ne_eqb, le-leb}
use mathlib.Core.{Path.{◌≡◌}, Bool.{and-false, and-true}, List.{List}}
use borrow.Author.Tests.{lt-leb}
use Rattle.text.specs.{Value.{digits, plain, is_value, field_value}, Parts.{digits_value}}

module _ (t : List ℕ) where
  pub form_empty : length t ≡ 0 → None ≡ field_value t
  unfolding field_value is_value
  form_empty h = rw (lt-leb 1 (length t) (omega arith))

  pub form_long : 6 < length t → None ≡ field_value t
  unfolding field_value is_value
  form_long h = rw (le-leb 1 (length t) (omega arith), lt-leb (length t) 6 h)

  pub form_zero : 1 < length t → length t ≤ 6 → get_or t 0 0 ≡ 48 → None ≡ field_value t
  unfolding field_value is_value plain
  form_zero h k e =
      rw (le-leb 1 (length t) (omega arith), le-leb (length t) 6 k, lt-leb (length t) 1 h, eq-eqb _ 48 e, and-false (digits t))

  pub form_one : 1 ≤ length t → length t ≤ 1 → digits_value t ≡ field_value t
  unfolding field_value is_value digits_value plain
  form_one h k = rw (le-leb 1 (length t) h, le-leb (length t) 6 (omega arith), le-leb (length t) 1 k, and-true (digits t))

  pub form_more : 1 < length t → length t ≤ 6 → (get_or t 0 0 ≡ 48 → ⊥) → digits_value t ≡ field_value t
  unfolding field_value is_value digits_value plain
  form_more h k e = rw (le-leb 1 (length t) (omega arith), le-leb (length t) 6 k, lt-leb (length t) 1 h, ne_eqb _ 48 e, and-true (digits t))
