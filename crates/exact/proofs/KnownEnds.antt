-- Which outcomes the least and the greatest are, where the order of the ends or their signs are known.
use Prim.Native.Nat.{ℕ}
use Rattle.exact.specs.{Fraction.{Fraction, ◌≤f◌, whole, ◌+f◌, ◌−f◌, ◌·f◌, inv, ◌÷f◌}, Ends.{Ends, combine, ◌+e◌, ◌−e◌, ◌·e◌, ◌÷e◌}}
use Rattle.exact.specs.{Exact.{exactly}, Depth.{Proper, Positive, SameEnds}}
use Rattle.exact.proofs.{Order.{refl≤, trans≤, refl≈, sym≈, trans≈}, Outcomes.{Outcomes, lower≤, ≤upper, lower_of, upper_of}}
use Rattle.exact.proofs.{Sums.{mono+, mono−, cong+, cong−}, Products.{mul≤, mul_left≤}, Quotients.{inv≤, inv_nonneg}}

pub same_refl : (A : Ends) → SameEnds A A
same_refl A = record { lowers = refl≈ A.lower; uppers = refl≈ A.upper }

pub same_sym : {A B : Ends} → SameEnds A B → SameEnds B A
same_sym s = record { lowers = sym≈ s.lowers; uppers = sym≈ s.uppers }

pub same_trans : {A B C : Ends} → SameEnds A B → SameEnds B C → SameEnds A C
same_trans s t = record { lowers = trans≈ s.lowers t.lowers; uppers = trans≈ s.uppers t.uppers }

-- the outcomes that each operation's ends are
abbrev pub sum_ends : Ends → Ends → Ends
sum_ends A B = record { lower = A.lower +f B.lower; upper = A.upper +f B.upper }

abbrev pub difference_ends : Ends → Ends → Ends
difference_ends A B = record { lower = A.lower −f B.upper; upper = A.upper −f B.lower }

abbrev pub product_ends : Ends → Ends → Ends
product_ends A B = record { lower = A.lower ·f B.lower; upper = A.upper ·f B.upper }

abbrev pub quotient_ends : Ends → Ends → Ends
quotient_ends A B = record { lower = A.lower ÷f B.upper; upper = A.upper ÷f B.lower }

abbrev pub scaled_ends : Fraction → Ends → Ends
scaled_ends q B = record { lower = q ·f B.lower; upper = q ·f B.upper }

-- ---- an operation that rises, or falls, along the ends

module _ (op : Fraction → Fraction → Fraction) (A B : Ends) where
  -- l is an outcome below all, h one above all
  known_ends : {l h : Fraction} → Outcomes (λ o. l ≤f o) op A B → (combine op A B).lower ≤f l
      → Outcomes (λ o. o ≤f h) op A B → h ≤f (combine op A B).upper → SameEnds (combine op A B) (record { lower = l; upper = h })
  known_ends {l} {h} below least above greatest =
      record {
        lowers = record { to = least; fro = lower_of op A B (λ o. l ≤f o) below };
        uppers = record { to = upper_of op A B (λ o. o ≤f h) above; fro = greatest };
      }

  -- it rises in both arguments
  pub rising_ends : op A.lower B.lower ≤f op A.lower B.upper → op A.lower B.upper ≤f op A.upper B.upper
      → op A.lower B.lower ≤f op A.upper B.lower → op A.upper B.lower ≤f op A.upper B.upper
      → SameEnds (combine op A B) (record { lower = op A.lower B.lower; upper = op A.upper B.upper })
  rising_ends ll-lu lu-uu ll-ul ul-uu =
      let ll-uu = trans≤ ll-ul ul-uu in
      known_ends (record { first = refl≤ _; second = ll-lu; third = ll-ul; fourth = ll-uu }) (lower≤ op A B).first
      (record { first = ll-uu; second = lu-uu; third = ul-uu; fourth = refl≤ _ }) (≤upper op A B).fourth

  -- it rises in the first argument and falls in the second
  pub rising_falling_ends : op A.lower B.upper ≤f op A.lower B.lower → op A.lower B.lower ≤f op A.upper B.lower
      → op A.lower B.upper ≤f op A.upper B.upper → op A.upper B.upper ≤f op A.upper B.lower
      → SameEnds (combine op A B) (record { lower = op A.lower B.upper; upper = op A.upper B.lower })
  rising_falling_ends lu-ll ll-ul lu-uu uu-ul =
      let lu-ul = trans≤ lu-uu uu-ul in
      known_ends (record { first = lu-ll; second = refl≤ _; third = lu-ul; fourth = lu-uu }) (lower≤ op A B).second
      (record { first = ll-ul; second = lu-ul; third = refl≤ _; fourth = uu-ul }) (≤upper op A B).third

-- ---- each operation

module _ {A B : Ends} (pa : Proper A) (pb : Proper B) where
  pub sum_ends_lem : SameEnds (A +e B) (sum_ends A B)
  unfolding ◌+e◌
  sum_ends_lem = rising_ends ◌+f◌ A B (second A.lower) (first B.upper) (first B.lower) (second A.upper)
    where
      first : (b : Fraction) → A.lower +f b ≤f A.upper +f b
      first b = mono+ pa.proper (refl≤ b)

      second : (a : Fraction) → a +f B.lower ≤f a +f B.upper
      second a = mono+ (refl≤ a) pb.proper

  pub difference_ends_lem : SameEnds (A −e B) (difference_ends A B)
  unfolding ◌−e◌
  difference_ends_lem = rising_falling_ends ◌−f◌ A B (second A.lower) (first B.lower) (first B.upper) (second A.upper)
    where
      first : (b : Fraction) → A.lower −f b ≤f A.upper −f b
      first b = mono− pa.proper (refl≤ b)

      second : (a : Fraction) → a −f B.upper ≤f a −f B.lower
      second a = mono− (refl≤ a) pb.proper

  pub product_ends_lem : whole 0 ≤f A.lower → whole 0 ≤f B.lower → SameEnds (A ·e B) (product_ends A B)
  unfolding ◌·e◌
  product_ends_lem na nb =
      rising_ends ◌·f◌ A B (mul_left≤ na pb.proper) (mul≤ (trans≤ nb pb.proper) pa.proper) (mul≤ nb pa.proper)
      (mul_left≤ (trans≤ na pa.proper) pb.proper)

  pub quotient_ends_lem : whole 0 ≤f A.lower → Positive B → SameEnds (A ÷e B) (quotient_ends A B)
  unfolding ◌÷e◌ ◌÷f◌
  quotient_ends_lem na p =
      let i : inv B.upper ≤f inv B.lower = inv≤ p.positive pb.proper in
      rising_falling_ends ◌÷f◌ A B (mul_left≤ na i) (mul≤ (inv_nonneg B.lower) pa.proper) (mul≤ (inv_nonneg B.upper) pa.proper)
      (mul_left≤ (trans≤ na pa.proper) i)

-- q times any pair, for q not negative
pub scaled_ends_lem : {q : Fraction} {B : Ends} (k : ℕ) → whole 0 ≤f q → Proper B → SameEnds (exactly q k ·e B) (scaled_ends q B)
unfolding ◌·e◌ exactly
scaled_ends_lem {q} {B} k nq pb =
    rising_ends ◌·f◌ (record { lower = q; upper = q }) B (mul_left≤ nq pb.proper) (refl≤ _) (refl≤ _) (mul_left≤ nq pb.proper)

pub scaled_proper : {q : Fraction} {B : Ends} (k : ℕ) → whole 0 ≤f q → Proper B → Proper (exactly q k ·e B)
scaled_proper k nq pb =
    let s = scaled_ends_lem k nq pb in
    record { proper = trans≤ s.lowers.to (trans≤ (mul_left≤ nq pb.proper) s.uppers.fro) }

-- ---- ends of one value in sums and differences

module _ {A A' B B' : Ends} (s : SameEnds A A') (t : SameEnds B B') where
  pub same_sum : SameEnds (sum_ends A B) (sum_ends A' B')
  same_sum = record { lowers = cong+ s.lowers t.lowers; uppers = cong+ s.uppers t.uppers }

  pub same_difference : SameEnds (difference_ends A B) (difference_ends A' B')
  same_difference = record { lowers = cong− s.lowers t.uppers; uppers = cong− s.uppers t.lowers }
