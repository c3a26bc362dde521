-- Columns with their names in order have each a name of its own.
use Prim.Native.Nat.{ℕ}
use mathlib.Core.{Path.{sym, ap, ◌∙◌}, List.{List}}
use native.Mathlib.Omega.{arith}
use lib.ListN.{get_or}
use Rattle.case.specs.Order.{Distinct, Ordered}

pub distinct : {n : ℕ} {at order : List ℕ} → Ordered n at order → Distinct n order
distinct {at = at} o =
    record {
      count = o.count;
      within = o.within;
      distinct = λ i j h k e. omega (arith, sym (o.column_of i h) ∙ ap (λ (x : ℕ). get_or at x 0) e ∙ o.column_of j k);
    }
