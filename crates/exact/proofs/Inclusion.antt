-- Narrower pairs give narrower results, for each operation at one depth.
use Prim.Native.Nat.{ℕ, ◌≤◌}
use Rattle.exact.specs.{Fraction.{Fraction, ◌≤f◌, ◌+f◌, ◌−f◌, ◌·f◌, ◌÷f◌}, Ends.{Ends, combine, ◌+e◌, ◌−e◌, ◌·e◌, ◌÷e◌}}
use Rattle.exact.specs.{Exact.{Exact, exactly, ◌+x◌, ◌−x◌, ◌·x◌, ◌÷x◌}, Depth.{Consistent, Within, Proper, Positive, SameEnds}}
use Rattle.exact.proofs.{Order.{refl≤, trans≤}, Outcomes.{lower_of, upper_of}}
use Rattle.exact.proofs.Points.{Point, Pointwise, lower_point, upper_point, point_within, sum_point, difference_point, product_point}
use Rattle.exact.proofs.{Points.{quotient_point}, Consistency.{proper_at}}

pub within_refl : (A : Ends) → Within A A
within_refl A = record { low = refl≤ A.lower; high = refl≤ A.upper }

pub within_trans : {A B C : Ends} → Within A B → Within B C → Within A C
within_trans h k = record { low = trans≤ k.low h.low; high = trans≤ h.high k.high }

pub within_same : {A B : Ends} → SameEnds A B → Within A B
within_same s = record { low = s.lowers.fro; high = s.uppers.to }

pub same_within : {A B : Ends} → Within A B → Within B A → SameEnds A B
same_within h k = record { lowers = record { to = k.low; fro = h.low }; uppers = record { to = h.high; fro = k.high } }

pub proper_within : {A B : Ends} → Proper A → Within A B → Proper B
proper_within p w = record { proper = trans≤ w.low (trans≤ p.proper w.high) }

pub within_exactly : {q : Fraction} {A : Ends} (k : ℕ) → Point q A → Within (exactly q k) A
unfolding exactly
within_exactly k p = record { low = p.low; high = p.high }

-- ---- each operation

pub within_combine : (op : Fraction → Fraction → Fraction) {A A' B B' : Ends} → Pointwise op A' B'
    → Proper A → Proper B → Within A A' → Within B B' → Within (combine op A B) (combine op A' B')
within_combine op {A} {A'} {B} {B'} h pa pb wa wb =
    let al : Point A.lower A' = point_within wa (lower_point pa) in
    let au : Point A.upper A' = point_within wa (upper_point pa) in
    let bl : Point B.lower B' = point_within wb (lower_point pb) in
    let bu : Point B.upper B' = point_within wb (upper_point pb) in
    let ll = h _ _ al bl in
    let lu = h _ _ al bu in
    let ul = h _ _ au bl in
    let uu = h _ _ au bu in
    record {
      low =
          lower_of op A B (λ o. (combine op A' B').lower ≤f o)
          (record { first = ll.low; second = lu.low; third = ul.low; fourth = uu.low });
      high =
          upper_of op A B (λ o. o ≤f (combine op A' B').upper)
          (record { first = ll.high; second = lu.high; third = ul.high; fourth = uu.high });
    }

module _ {x y : Exact} {k : ℕ} {A B : Ends} (cx : Consistent x) (cy : Consistent y) (d : 3 ≤ k) (wx : Within (x k) A)
    (wy : Within (y k) B) where
  pub within_sum : Within ((x +x y) k) (A +e B)
  unfolding ◌+x◌ ◌+e◌
  within_sum = within_combine ◌+f◌ (sum_point A B) (proper_at cx d) (proper_at cy d) wx wy

  pub within_difference : Within ((x −x y) k) (A −e B)
  unfolding ◌−x◌ ◌−e◌
  within_difference = within_combine ◌−f◌ (difference_point A B) (proper_at cx d) (proper_at cy d) wx wy

  pub within_product : Within ((x ·x y) k) (A ·e B)
  unfolding ◌·x◌ ◌·e◌
  within_product = within_combine ◌·f◌ (product_point A B) (proper_at cx d) (proper_at cy d) wx wy

  pub within_quotient : Positive B → Within ((x ÷x y) k) (A ÷e B)
  unfolding ◌÷x◌ ◌÷e◌
  within_quotient p = within_combine ◌÷f◌ (quotient_point A B p) (proper_at cx d) (proper_at cy d) wx wy
