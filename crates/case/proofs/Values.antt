-- The values of the case of some values are those values.
use Prim.Native.Nat.{ℕ, zero, suc, ◌+◌}
use mathlib.Core.{Path.{◌≡◌, sym, ap, ◌∙◌}, List.{List, ◌∷◌, map}}
use native.Mathlib.Omega.{arith}
use lib.{ListN.{length, get_or, drop, drop_of_length-le}, Seq.{drop-cons}}
use Rattle.case.specs.{Columns.{name_count}, Case.{values, case_of}, Check.{count_from}}

pub entries_from : (v : List ℕ) (k n : ℕ) → k + n ≡ length v → map (λ i. get_or v i 0) (count_from k n) ≡ drop k v
unfolding count_from
entries_from v k zero h = sym (drop_of_length-le v {i = k} (omega arith))
entries_from v k (suc n) h =
    ap (λ (l : List ℕ). get_or v k 0 ∷ l) (entries_from v (suc k) n (omega arith)) ∙ sym (drop-cons v k 0 (omega arith))

pub values_of_case : (v : List ℕ) → length v ≡ name_count → values (case_of v) ≡ v
unfolding count_from
values_of_case v h = entries_from v 0 name_count (omega arith)
