-- The operations take numbers to numbers. What a divisor, a logarithm or a root needs besides is that the ends are positive.
use Prim.Native.Nat.{ℕ, ◌≤◌}
use Rattle.exact.specs.{Fraction.{Fraction, ◌<f◌, whole}, Exact.{Exact, exactly, ◌+x◌, ◌−x◌, ◌·x◌, ◌÷x◌, minus}, Root.{root}}
use Rattle.exact.specs.{Logarithm.{ln_of, ln}, Exponential.{exp}, Pi.{π}, Depth.{PositiveAt}}
use Rattle.exact.proofs.Consistency.{consistent_exactly, consistent_sum, consistent_difference, consistent_product, consistent_quotient}
use Rattle.exact.proofs.{Consistency.{consistent_minus}, Positive.{positive_exactly}, Roots.{consistent_root}, Pi.{consistent_π}}
use Rattle.exact.proofs.{Logarithm.{consistent_ln}, Exponential.{consistent_exp}}
use Rattle.numbers.specs.Number.{Number}
use Rattle.numbers.proofs.{Narrow.{narrows_exactly, narrows_minus, narrows_sum, narrows_difference}, Products.{narrows_product}}
use Rattle.numbers.proofs.{Floor.{narrows_quotient}, Pi.{narrows_π}, Roots.{narrows_root_exactly, narrows_root}}
use Rattle.numbers.proofs.{Logarithm.{narrows_ln}, Exponential.{narrows_exp}}

pub number_exactly : (q : Fraction) → Number (exactly q)
number_exactly q = record { consistent = consistent_exactly q; narrows = narrows_exactly q }

pub number_π : Number π
number_π = record { consistent = consistent_π; narrows = narrows_π }

-- of any fraction
pub number_root_exactly : (n : ℕ) (q : Fraction) → 1 ≤ n → Number (root n (exactly q))
number_root_exactly n q h = record { consistent = consistent_root n h (consistent_exactly q); narrows = narrows_root_exactly n q }

module _ {x : Exact} (a : Number x) where
  pub number_minus : Number (minus x)
  number_minus = record { consistent = consistent_minus a.consistent; narrows = narrows_minus a.narrows }

  pub number_exp : Number (exp x)
  number_exp = record { consistent = consistent_exp a.consistent; narrows = narrows_exp a.consistent a.narrows }

  pub number_ln : PositiveAt x → Number (ln x)
  number_ln p = record { consistent = consistent_ln p a.consistent; narrows = narrows_ln p a.consistent a.narrows }

  pub number_root : (n : ℕ) → 1 ≤ n → PositiveAt x → Number (root n x)
  number_root n h p = record { consistent = consistent_root n h a.consistent; narrows = narrows_root n h a.consistent p a.narrows }

-- of a fraction, as it is asked alone
pub number_ln_of : {q : Fraction} → whole 0 <f q → Number (ln_of q)
unfolding ln exactly
number_ln_of {q} p = number_ln (number_exactly q) (positive_exactly p)

module _ {x y : Exact} (a : Number x) (b : Number y) where
  pub number_sum : Number (x +x y)
  number_sum =
      record {
        consistent = consistent_sum a.consistent b.consistent;
        narrows = narrows_sum a.consistent b.consistent a.narrows b.narrows;
      }

  pub number_difference : Number (x −x y)
  number_difference =
      record {
        consistent = consistent_difference a.consistent b.consistent;
        narrows = narrows_difference a.consistent b.consistent a.narrows b.narrows;
      }

  pub number_product : Number (x ·x y)
  number_product =
      record {
        consistent = consistent_product a.consistent b.consistent;
        narrows = narrows_product a.consistent b.consistent a.narrows b.narrows;
      }

  pub number_quotient : PositiveAt y → Number (x ÷x y)
  number_quotient p =
      record {
        consistent = consistent_quotient p a.consistent b.consistent;
        narrows = narrows_quotient a.consistent b.consistent p a.narrows b.narrows;
      }

pub ruleset numbers = (
  number_exactly,
  number_π,
  number_root_exactly,
  number_minus,
  number_exp,
  number_ln,
  number_root,
  number_sum,
  number_difference,
  number_product,
  number_quotient,
)
