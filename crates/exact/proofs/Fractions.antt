-- Fractions as exact values: an operation on two fractions is the operation on the values that are exactly these.
use Prim.Native.Nat.{ℕ}
use Rattle.exact.specs.{Fraction.{Fraction, ◌≈f◌, ◌−f◌, ◌·f◌, ◌÷f◌}, Ends.{Ends, combine, ◌−e◌, ◌·e◌, ◌÷e◌}}
use Rattle.exact.specs.{Exact.{exactly, ◌−x◌, ◌·x◌, ◌÷x◌}, Depth.{SameEnds}}
use Rattle.exact.proofs.{Order.{refl≈}, Outcomes.{lower_of, upper_of}}

pub exactly_same : {p q : Fraction} → p ≈f q → (k : ℕ) → SameEnds (exactly p k) (exactly q k)
unfolding exactly
exactly_same e k = record { lowers = e; uppers = e }

module _ (p q : Fraction) (k : ℕ) where
  one_outcome : (op : Fraction → Fraction → Fraction) → SameEnds (combine op (exactly p k) (exactly q k)) (exactly (op p q) k)
  unfolding exactly
  one_outcome op =
      let P : Ends = record { lower = p; upper = p } in
      let Q : Ends = record { lower = q; upper = q } in
      let e = refl≈ (op p q) in
      record {
        lowers = lower_of op P Q (λ o. o ≈f op p q) (record { first = e; second = e; third = e; fourth = e });
        uppers = upper_of op P Q (λ o. o ≈f op p q) (record { first = e; second = e; third = e; fourth = e });
      }

  pub exactly_difference : SameEnds ((exactly p −x exactly q) k) (exactly (p −f q) k)
  unfolding ◌−x◌ ◌−e◌
  exactly_difference = one_outcome ◌−f◌

  pub exactly_product : SameEnds ((exactly p ·x exactly q) k) (exactly (p ·f q) k)
  unfolding ◌·x◌ ◌·e◌
  exactly_product = one_outcome ◌·f◌

  pub exactly_quotient : SameEnds ((exactly p ÷x exactly q) k) (exactly (p ÷f q) k)
  unfolding ◌÷x◌ ◌÷e◌
  exactly_quotient = one_outcome ◌÷f◌
