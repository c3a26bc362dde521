-- The ends of a value come together: kept by minus, sums and differences, since two points of a pair are no further apart than its ends.
use Prim.Native.Nat.{ℕ, ◌≤◌}
use native.Mathlib.Omega.{arith}
use Rattle.exact.specs.{Fraction.{Fraction, ◌≤f◌, whole, ◌+f◌, ◌−f◌, ◌·f◌, inv, ◌÷f◌}, Ends.{Ends, combine, ◌+e◌, ◌−e◌, minus_ends}}
use Rattle.exact.specs.{Exact.{Exact, exactly, ◌+x◌, ◌−x◌, minus}, Depth.{Consistent, Proper}}
use Rattle.exact.proofs.{Order.{refl≤, trans≤, whole_pos, nonneg}, Products.{mul≤, mul_left≤, mono·, mul_one, add_mul}}
use Rattle.exact.proofs.{Quotients.{inv_nonneg}, Outcomes.{lower_of, upper_of}, Points.{Point, lower_point, upper_point}}
use Rattle.exact.proofs.{Consistency.{proper_at}, Exponential.{inverse_high}}
use Rattle.numbers.specs.Number.{Near, Narrows}
use Rattle.numbers.proofs.Near.{whole_above, near_below, near_more, near_between, near_sum, near_neg, near_difference, near_inverse}
use Rattle.numbers.proofs.{Near.{Close}, Units.{unit, unit_nonneg, units_nonneg}}

-- the inverses of two fractions that are at least 1
pub near_inverse_one : {w a b : Fraction} → whole 1 ≤f a → whole 1 ≤f b → whole 0 ≤f w → Near w a b → Near w (inv b) (inv a)
near_inverse_one {w} la lb nw h =
    let o : inv (whole 1) ≤f whole 1 = inverse_high (refl≤ (whole 1)) in
    near_more (near_inverse (whole_pos (omega arith)) la lb nw h)
    (trans≤ (mul_left≤ nw (trans≤ (mono· (inv_nonneg (whole 1)) (nonneg 1) o o) (mul_one (whole 1)).to)) (mul_one w).to)

-- ---- as laws use it

pub narrow_at : {x : Exact} (n : Narrows x) {k : ℕ} → 3 ≤ k → Near (whole n.rate ·f unit k) (x k).lower (x k).upper
unfolding ◌÷f◌
narrow_at n {k} d = n.narrow k d

-- at any rate that is a fraction
pub narrows_by : {x : Exact} (r : Fraction) → ((k : ℕ) → 3 ≤ k → Near (r ·f unit k) (x k).lower (x k).upper) → Narrows x
unfolding ◌÷f◌
narrows_by r h = record { rate = r.plus; narrow = λ k d. near_more (h k d) (mul≤ (unit_nonneg k) (whole_above r)) }

pub narrows_exactly : (q : Fraction) → Narrows (exactly q)
unfolding exactly
narrows_exactly q = narrows_by (whole 0) (λ k d. near_below (units_nonneg 0 k) (refl≤ q))

pub narrows_minus : {x : Exact} → Narrows x → Narrows (minus x)
unfolding minus minus_ends
narrows_minus n = narrows_by (whole n.rate) (λ k d. near_neg (narrow_at n d))

-- ---- two points of a pair

pub points_close : {A : Ends} {w p q : Fraction} → Near w A.lower A.upper → Point p A → Point q A → Close w p q
points_close h a b = record { to = near_between h a.low b.high; fro = near_between h b.low a.high }

-- an operation that takes close points to near outcomes
pub combine_narrow : (op : Fraction → Fraction → Fraction) {A B : Ends} {w : Fraction} → Proper A → Proper B
    → ((a a' b b' : Fraction) → Point a A → Point a' A → Point b B → Point b' B → Near w (op a b) (op a' b'))
    → Near w (combine op A B).lower (combine op A B).upper
combine_narrow op {A} {B} {w} pa pb h =
    upper_of op A B (λ o. Near w (combine op A B).lower o)
    (record { first = above la lb; second = above la ub; third = above ua lb; fourth = above ua ub })
  where
    la : Point A.lower A
    la = lower_point pa

    ua : Point A.upper A
    ua = upper_point pa

    lb : Point B.lower B
    lb = lower_point pb

    ub : Point B.upper B
    ub = upper_point pb

    above : {a b : Fraction} → Point a A → Point b B → Near w (combine op A B).lower (op a b)
    above {a} {b} p q =
        lower_of op A B (λ o. Near w o (op a b))
        (record { first = h _ _ _ _ la p lb q; second = h _ _ _ _ la p ub q; third = h _ _ _ _ ua p lb q; fourth = h _ _ _ _ ua p ub q })

-- ---- sums and differences

module _ {x y : Exact} (cx : Consistent x) (cy : Consistent y) (nx : Narrows x) (ny : Narrows y) where
  pub narrows_sum : Narrows (x +x y)
  unfolding ◌+x◌ ◌+e◌
  narrows_sum =
      narrows_by (whole nx.rate +f whole ny.rate)
      (λ k d.
      near_more
      (combine_narrow ◌+f◌ (proper_at cx d) (proper_at cy d)
      (λ _ _ _ _ a a' b b'. near_sum (points_close (narrow_at nx d) a a').to (points_close (narrow_at ny d) b b').to))
      (add_mul _ _ _).fro)

  pub narrows_difference : Narrows (x −x y)
  unfolding ◌−x◌ ◌−e◌
  narrows_difference =
      narrows_by (whole nx.rate +f whole ny.rate)
      (λ k d.
      near_more
      (combine_narrow ◌−f◌ (proper_at cx d) (proper_at cy d)
      (λ _ _ _ _ a a' b b'. near_difference (points_close (narrow_at nx d) a a').to (points_close (narrow_at ny d) b' b).to))
      (add_mul _ _ _).fro)
