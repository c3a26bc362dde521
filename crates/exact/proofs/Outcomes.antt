-- The four outcomes of an operation on the ends of two pairs, of which a combination's ends are the least and the greatest.
use Rattle.exact.specs.{Fraction.{Fraction, ◌≤f◌}, Ends.{Ends, combine}}
use Rattle.exact.proofs.Order.{Each, least≤, ≤greatest, least_of_lem, greatest_of_lem}

-- a property of each outcome: lower and lower, lower and upper, upper and lower, upper and upper
abbrev pub Outcomes : (Fraction → Type 0) → (Fraction → Fraction → Fraction) → Ends → Ends → Type 0
Outcomes P op A B = Each P (op A.lower B.lower) (op A.lower B.upper) (op A.upper B.lower) (op A.upper B.upper)

module _ (op : Fraction → Fraction → Fraction) (A B : Ends) where
  pub lower≤ : Outcomes (λ o. (combine op A B).lower ≤f o) op A B
  unfolding combine
  lower≤ = least≤ _ _ _ _

  pub ≤upper : Outcomes (λ o. o ≤f (combine op A B).upper) op A B
  unfolding combine
  ≤upper = ≤greatest _ _ _ _

  -- what holds of each outcome holds of the ends
  pub lower_of : (P : Fraction → Type 0) → Outcomes P op A B → P (combine op A B).lower
  unfolding combine
  lower_of P e = least_of_lem P e

  pub upper_of : (P : Fraction → Type 0) → Outcomes P op A B → P (combine op A B).upper
  unfolding combine
  upper_of P e = greatest_of_lem P e
