-- The depths of a value do not contradict each other: kept by each operation, since two pairs with a common point combine to
-- pairs with a common point (Points.antt).
use Prim.Native.Nat.{ℕ, ◌≤◌}
use Rattle.exact.specs.Fraction.{Fraction, ◌≤f◌, ◌+f◌, ◌−f◌, ◌·f◌, ◌÷f◌, maxf}
use Rattle.exact.specs.Ends.{Ends, combine, ◌+e◌, ◌−e◌, ◌·e◌, ◌÷e◌, minus_ends}
use Rattle.exact.specs.{Exact.{Exact, exactly, ◌+x◌, ◌−x◌, ◌·x◌, ◌÷x◌, minus}, Depth.{Consistent, Proper, PositiveAt}}
use Rattle.exact.proofs.{Order.{refl≤, trans≤, max_left, max_right, max_cases}, Sums.{neg≤}}
use Rattle.exact.proofs.Points.{Point, Pointwise, sum_point, difference_point, product_point, quotient_point}

pub record Common (A B : Ends) : Type 0 where
  pub point : Fraction
  pub first : Point point A
  pub second : Point point B

-- neither lies wholly above the other
pub common : {A B : Ends} → Proper A → Proper B → A.lower ≤f B.upper → B.lower ≤f A.upper → Common A B
common {A} {B} pa pb l r =
    record {
      point = maxf A.lower B.lower;
      first = record { low = max_left _ _; high = max_cases (λ m. m ≤f A.upper) (λ _. pa.proper) (λ _. r) };
      second = record { low = max_right _ _; high = max_cases (λ m. m ≤f B.upper) (λ _. l) (λ _. pb.proper) };
    }

pub common_left : {A B : Ends} → Common A B → A.lower ≤f B.upper
common_left c = trans≤ c.first.low c.second.high

pub common_right : {A B : Ends} → Common A B → B.lower ≤f A.upper
common_right c = trans≤ c.second.low c.first.high

pub common_combine : (op : Fraction → Fraction → Fraction) {A A' B B' : Ends}
    → Pointwise op A B → Pointwise op A' B' → Common A A' → Common B B' → Common (combine op A B) (combine op A' B')
common_combine op h h' c d =
    record {
      point = op c.point d.point;
      first = h c.point d.point c.first d.first;
      second = h' c.point d.point c.second d.second;
    }

pub proper_at : {x : Exact} {k : ℕ} → Consistent x → 3 ≤ k → Proper (x k)
proper_at {k = k} c h = record { proper = c.agree k k h h }

pub common_depths : {x : Exact} → Consistent x → (j k : ℕ) → 3 ≤ j → 3 ≤ k → Common (x j) (x k)
common_depths c j k hj hk = common (proper_at c hj) (proper_at c hk) (c.agree j k hj hk) (c.agree k j hk hj)

-- ---- each operation

pub consistent_combine : (op : Fraction → Fraction → Fraction) {x y : Exact}
    → ((k : ℕ) → 3 ≤ k → Pointwise op (x k) (y k)) → Consistent x → Consistent y → Consistent (λ k. combine op (x k) (y k))
consistent_combine op h cx cy =
    record {
      agree = λ j k hj hk.
          common_left (common_combine op (h j hj) (h k hk) (common_depths cx j k hj hk) (common_depths cy j k hj hk));
    }

pub consistent_exactly : (q : Fraction) → Consistent (exactly q)
unfolding exactly
consistent_exactly q = record { agree = λ j k hj hk. refl≤ q }

pub consistent_sum : {x y : Exact} → Consistent x → Consistent y → Consistent (x +x y)
unfolding ◌+x◌ ◌+e◌
consistent_sum {x} {y} = consistent_combine ◌+f◌ (λ k h. sum_point (x k) (y k))

pub consistent_difference : {x y : Exact} → Consistent x → Consistent y → Consistent (x −x y)
unfolding ◌−x◌ ◌−e◌
consistent_difference {x} {y} = consistent_combine ◌−f◌ (λ k h. difference_point (x k) (y k))

pub consistent_product : {x y : Exact} → Consistent x → Consistent y → Consistent (x ·x y)
unfolding ◌·x◌ ◌·e◌
consistent_product {x} {y} = consistent_combine ◌·f◌ (λ k h. product_point (x k) (y k))

pub consistent_quotient : {x y : Exact} → PositiveAt y → Consistent x → Consistent y → Consistent (x ÷x y)
unfolding ◌÷x◌ ◌÷e◌
consistent_quotient {x} {y} p = consistent_combine ◌÷f◌ (λ k h. quotient_point (x k) (y k) (p.at k h))

pub consistent_minus : {x : Exact} → Consistent x → Consistent (minus x)
unfolding minus minus_ends
consistent_minus c = record { agree = λ j k hj hk. neg≤ (c.agree k j hk hj) }
