-- The values of a line, put at the indices of their columns' names, are its values in the order of the names.
use Prim.Native.Nat.{ℕ, zero, suc, ◌-◌, ◌<◌}
use mathlib.Core.{Path.{◌≡◌, refl, sym, ap, ◌∙◌}, List.{List, [], ◌∷◌, map}}
use native.Mathlib.Omega.{arith}
use lib.{ListN.{length, get_or, length-map}, Seq.{ext_get_or}}
use Rattle.std.specs.Prelude.{Result, Ok}
use Rattle.text.specs.{Text.{fields_of}, Value.{value_of}}
use Rattle.case.specs.{Bounds.{Placed}, Order.{Ordered}}
use Rattle.line.specs.{Line.{line_values}, Parts.{LineValues}}

map_at : (f : ℕ → ℕ) (l : List ℕ) (k : ℕ) → k < length l → get_or (map f l) k 0 ≡ f (get_or l k 0)
map_at f [] k h = absurd (omega arith)
map_at f (x ∷ l) zero h = refl
map_at f (x ∷ l) (suc k) h = map_at f l k (omega arith)

pub arranged : {n : ℕ} {at order line row : List ℕ} {found : Result Unit ℕ} → Placed n at → Ordered n at order → LineValues n order line found row
    → found ≡ Ok tt → row ≡ line_values at (fields_of line)
unfolding line_values
arranged {n} {at} {order} {line} {row} p o v z =
    ext_get_or 0 row (map value at) (v.count ∙ sym (length-map at value ∙ p.count)) (λ k h. same k (omega (arith, v.count)))
  where
    value : ℕ → ℕ
    value c = get_or (map value_of (fields_of line)) (c - 1) 0

    same : (k : ℕ) → k < n → get_or row k 0 ≡ get_or (map value at) k 0
    same k h =
        sym (ap (λ (i : ℕ). get_or row i 0) (o.name_of k h)) ∙ v.values z (get_or at k 0 - 1) (omega (arith, p.some k h, p.within k))
        ∙ sym (map_at value at k (omega (arith, p.count)))
