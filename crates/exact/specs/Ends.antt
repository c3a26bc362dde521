-- The two ends of a value at one depth, and how ends combine. §5.1, §5.2: "Sums, products and quotients combine the two ends by the least
-- and greatest outcome".
use Rattle.exact.specs.Fraction.{Fraction, ◌+f◌, neg, ◌−f◌, ◌·f◌, ◌÷f◌, minf, maxf}

pub record Ends : Type 0 where
  pub lower : Fraction
  pub upper : Fraction

-- the least and the greatest of four
unfoldable pub least : Fraction → Fraction → Fraction → Fraction → Fraction
least a b c d = minf (minf a b) (minf c d)

unfoldable pub greatest : Fraction → Fraction → Fraction → Fraction → Fraction
greatest a b c d = maxf (maxf a b) (maxf c d)

-- the least and the greatest outcome of an operation on an end of A and an end of B
unfoldable pub combine : (Fraction → Fraction → Fraction) → Ends → Ends → Ends
combine op A B =
    record {
      lower = least (op A.lower B.lower) (op A.lower B.upper) (op A.upper B.lower) (op A.upper B.upper);
      upper = greatest (op A.lower B.lower) (op A.lower B.upper) (op A.upper B.lower) (op A.upper B.upper);
    }

infixl 65 ◌+e◌ ◌−e◌
infixl 70 ◌·e◌ ◌÷e◌
unfoldable pub ◌+e◌ : Ends → Ends → Ends
◌+e◌ = combine ◌+f◌

unfoldable pub ◌−e◌ : Ends → Ends → Ends
◌−e◌ = combine ◌−f◌

unfoldable pub ◌·e◌ : Ends → Ends → Ends
◌·e◌ = combine ◌·f◌

-- where both ends of the second are positive
unfoldable pub ◌÷e◌ : Ends → Ends → Ends
◌÷e◌ = combine ◌÷f◌

-- minus a pair
unfoldable pub minus_ends : Ends → Ends
minus_ends A = record { lower = neg A.upper; upper = neg A.lower }
