-- The ends of π come together: an alternating series with one term more differs by that term.
use Prim.Native.Nat.{ℕ, zero, suc, ◌+◌, ◌*◌, ◌^◌, ◌≤◌}
use mathlib.Core.Path.{◌≡◌}
use native.Mathlib.{Omega.{arith}, Nat.{mul-le-mul, pow-le-pow_left, pow-le-pow_right, le_trans}}
use lib.Pow.{pow_pos}
use Rattle.exact.specs.{Fraction.{Fraction, ◌≤f◌, whole, ◌+f◌, neg, ◌−f◌}, Exact.{exactly, ◌·x◌}}
use Rattle.exact.{specs.{Pi.{alternating, arctan_term, arctan_over, π}, Depth.{Consistent}}, proofs.Order.{trans≤, whole≤, whole_pos}}
use Rattle.exact.proofs.{Products.{one-mul}, Quotients.{inv≤}, Consistency.{consistent_exactly, consistent_product}, Pi.{consistent_arctan}}
use Rattle.numbers.specs.Number.{Near, Narrows}
use Rattle.numbers.proofs.{Near.{near_more, near_plus, near_neg}, Units.{unit}}
use Rattle.numbers.proofs.{Narrow.{narrows_by, narrows_exactly, narrows_difference}, Products.{narrows_product}}

single : (a : Fraction) → Near a (whole 0) (a −f whole 0)
unfolding ◌−f◌ ◌+f◌ neg whole
single a = omega arith

alternating_near : (t : ℕ → Fraction) (k : ℕ) → Near (t (2 * k)) (alternating t (2 * k)) (alternating t (2 * k + 1))
unfolding alternating ◌−f◌
alternating_near t zero = single (t 0)
alternating_near t (suc k) =
    let e : 2 * suc k ≡ suc (suc (2 * k)) = omega arith in
    let o : suc (suc (2 * k)) + 1 ≡ suc (suc (2 * k + 1)) = omega arith in
    rw (e, o) (near_plus (t 0) (near_neg (near_plus (t 1) (near_neg (alternating_near (λ i. t (suc (suc i))) k)))))

term≤unit : (n k : ℕ) → 2 ≤ n → arctan_term n (2 * k) ≤f unit k
unfolding arctan_term
term≤unit n k h = inv≤ (whole_pos (pow_pos k)) (whole≤ large)
  where
    large : 2 ^ k ≤ (2 * (2 * k) + 1) * n ^ (2 * (2 * k) + 1)
    large =
        let p : 2 ^ k ≤ n ^ (2 * (2 * k) + 1) = le_trans (pow-le-pow_left h k) (pow-le-pow_right (omega arith) (omega arith)) in
        let o : 1 ≤ 2 * (2 * k) + 1 = omega arith in
        omega (arith, mul-le-mul o p)

narrows_arctan : (n : ℕ) → 2 ≤ n → Narrows (arctan_over n)
unfolding arctan_over
narrows_arctan n h = narrows_by (whole 1) (λ k d. near_more (alternating_near (arctan_term n) k) (trans≤ (term≤unit n k h) (one-mul _).fro))

-- π by Machin's formula, a multiple of each arctangent
module _ (a n : ℕ) (h : 2 ≤ n) where
  consistent_multiple : Consistent (exactly (whole a) ·x arctan_over n)
  consistent_multiple = consistent_product (consistent_exactly (whole a)) (consistent_arctan n (omega arith))

  narrows_multiple : Narrows (exactly (whole a) ·x arctan_over n)
  narrows_multiple =
      narrows_product (consistent_exactly (whole a)) (consistent_arctan n (omega arith)) (narrows_exactly (whole a)) (narrows_arctan n h)

pub narrows_π : Narrows π
unfolding π
narrows_π =
    let f : 2 ≤ 5 = omega arith in
    let g : 2 ≤ 239 = omega arith in
    narrows_difference (consistent_multiple 16 5 f) (consistent_multiple 4 239 g) (narrows_multiple 16 5 f) (narrows_multiple 4 239 g)
