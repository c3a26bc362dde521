-- Values that are consistent and positive at every depth: what lengths, resistivities and their formulas are.
use Prim.Native.Nat.{ℕ, ◌≤◌}
use Rattle.exact.specs.{Fraction.{Fraction, ◌≤f◌, ◌<f◌, whole, decimal}, Exact.{Exact, exactly, ◌+x◌, ◌·x◌, ◌÷x◌}, Root.{root}}
use Rattle.exact.specs.{Pi.{π}, Depth.{Consistent, PositiveAt}}
use Rattle.exact.proofs.Consistency.{consistent_exactly, consistent_sum, consistent_product, consistent_quotient}
use Rattle.exact.proofs.Positive.{at_least_exactly, positive_exactly, positive_sum, positive_product, positive_quotient}
use Rattle.exact.proofs.{Positive.{positive_root}, Roots.{consistent_root}, Pi.{consistent_π, positive_π}}

pub record Quantity (x : Exact) : Type 0 where
  pub consistent : Consistent x
  pub positive : PositiveAt x

pub quantity_exactly : {q : Fraction} → whole 0 <f q → Quantity (exactly q)
quantity_exactly {q} h = record { consistent = consistent_exactly q; positive = positive_exactly h }

module _ {x y : Exact} (a : Quantity x) (b : Quantity y) where
  pub quantity_sum : Quantity (x +x y)
  quantity_sum =
      record {
        consistent = consistent_sum a.consistent b.consistent;
        positive = positive_sum a.consistent b.consistent a.positive b.positive;
      }

  pub quantity_product : Quantity (x ·x y)
  quantity_product =
      record {
        consistent = consistent_product a.consistent b.consistent;
        positive = positive_product a.consistent b.consistent a.positive b.positive;
      }

  pub quantity_quotient : Quantity (x ÷x y)
  quantity_quotient =
      record {
        consistent = consistent_quotient b.positive a.consistent b.consistent;
        positive = positive_quotient a.consistent b.consistent a.positive b.positive;
      }

-- of a fraction that is at least a thousandth
pub quantity_root : (n : ℕ) {q : Fraction} → 1 ≤ n → decimal 1 3 ≤f q → Quantity (root n (exactly q))
quantity_root n {q} h l =
    record { consistent = consistent_root n h (consistent_exactly q); positive = positive_root n h (at_least_exactly l) }

pub quantity_π : Quantity π
quantity_π = record { consistent = consistent_π; positive = positive_π }
