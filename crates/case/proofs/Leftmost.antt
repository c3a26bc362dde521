-- The search for the leftmost column out of range, from the last name of a form to the first: what holds when the names from k on are done.
use Prim.Native.Nat.{ℕ, zero, suc, ◌-◌, ◌≤◌, ◌<◌}
use mathlib.Core.{Path.{◌≡◌}, Bool.{true, false, cond}, List.{List}}
use native.Mathlib.{Numerals.{sub-one}, Omega.{arith}}
use lib.{ListN.{length, get_or, drop, drop_of_length-le}, Seq.{drop-cons}}
use Rattle.case.specs.{Columns.{Form, in_range}, Check.{left_of, out_of_range}, Parts.{range_at, no_column}}

pub record Leftmost (form : Form) (at v : List ℕ) (c k : ℕ) : Type 0 where
  pub columns_all : length at ≡ length form
  pub values_all : length v ≡ length form
  pub within : k ≤ length form
  pub is : c ≡ out_of_range (drop k form) (drop k at) (drop k v)

pub leftmost_start : (form : Form) (at v : List ℕ) → length at ≡ length form → length v ≡ length form → Leftmost form at v 0 (length v)
unfolding out_of_range
leftmost_start form at v p q =
    record { columns_all = p; values_all = q; within = omega arith; is = rw (drop_of_length-le form {i = length v} (omega arith)) }

leftmost_step : {form : Form} {at v : List ℕ} {c k : ℕ} (r : ℕ) → Leftmost form at v c k → 0 < k
    → r ≡ cond (in_range (range_at form (k - 1)) (get_or v (k - 1) 0)) c (left_of (get_or at (k - 1) 0) c) → Leftmost form at v r (k - 1)
unfolding out_of_range range_at
leftmost_step {k = zero} r a h e = absurd (omega arith)
leftmost_step {form} {at} {v} {c} {k = suc k} r a h e =
    record {
      columns_all = a.columns_all;
      values_all = a.values_all;
      within = omega (arith, a.within);
      is =
          rw (
            sub-one,
            drop-cons form k no_column (omega (arith, a.within)),
            drop-cons at k 0 (omega (arith, a.within)),
            drop-cons v k 0
                (omega (arith, a.within)),
            ← a.is,
          )
          (rw sub-one at e);
    }

-- the value of the next name is out of its range, or in it
pub leftmost_outside : {form : Form} {at v : List ℕ} {c k r : ℕ} → Leftmost form at v c k → 0 < k
    → in_range (range_at form (k - 1)) (get_or v (k - 1) 0) ≡ false → r ≡ left_of (get_or at (k - 1) 0) c → Leftmost form at v r (k - 1)
leftmost_outside {r = r} a h t e = leftmost_step r a h (rw t e)

pub leftmost_inside : {form : Form} {at v : List ℕ} {c k : ℕ} → Leftmost form at v c k → 0 < k
    → in_range (range_at form (k - 1)) (get_or v (k - 1) 0) ≡ true → Leftmost form at v c (k - 1)
leftmost_inside {c = c} a h t = leftmost_step c a h (rw t)

pub leftmost_end : {form : Form} {at v : List ℕ} {c k : ℕ} → Leftmost form at v c k → k ≤ 0 → c ≡ out_of_range form at v
leftmost_end {k = zero} a h = a.is
leftmost_end {k = suc k} a h = absurd (omega arith)
