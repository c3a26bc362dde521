-- The logarithm's series at two near arguments, and its tail: for 1 ≤ r ≤ 2 the argument z is at most 1/2, so that a term's part of the
-- difference halves from term to term.
use Prim.Native.Nat.{ℕ, zero, suc, ◌+◌, ◌*◌}
use mathlib.Core.Path.{◌≡◌}
use native.Mathlib.Omega.{arith}
use lib.Dec.{lit≤}
use Rattle.exact.specs.Fraction.{Fraction, ◌≤f◌, ◌<f◌, ◌≈f◌, whole, ◌+f◌, neg, ◌−f◌, ◌·f◌, inv, ◌÷f◌, powf, sum_of}
use Rattle.exact.{specs.Logarithm.{term, terms, tail}, proofs.Order.{refl≤, trans≤, refl≈, trans≈, whole≤, whole_pos, nonneg}}
use Rattle.exact.proofs.Sums.{mono+, mono−, add-zero}
use Rattle.exact.proofs.Products.{mul≤, mul_left≤, mono·, mul_nonneg, mul_comm, mul_assoc, mul_zero, mul_one, one-mul, mul_add, add_mul}
use Rattle.exact.proofs.{Products.{cong·, whole_mul}, Quotients.{inv≤, inv_pos, inv_nonneg, mul_inv}, SeriesBounds.{tail_below}}
use Rattle.exact.proofs.ExpTerms.{half}
use Rattle.numbers.specs.Number.{Near}
use Rattle.numbers.proofs.Near.{near_below, near_more, near_between, near_sum, near_times}
use Rattle.numbers.proofs.{Units.{unit, unit_nonneg, power≤unit, unit≤, units_sum≤}, Powers.{power_near}}

-- ---- the terms

module _ {w z z' : Fraction} (nz : whole 0 ≤f z) (l : z ≤f z') (s : z' ≤f half) (nw : whole 0 ≤f w) (h : Near w z z') where
  -- 2 n p w / n is 2 p w
  cancelled : (n p : Fraction) → whole 0 <f n → whole 2 ·f (n ·f p) ·f inv n ≈f whole 2 ·f p
  cancelled n p hn =
      trans≈ (mul_assoc (whole 2) (n ·f p) (inv n))
      (cong· (refl≈ (whole 2))
      (trans≈ (cong· (mul_comm n p) (refl≈ _)) (trans≈ (mul_assoc p n (inv n)) (trans≈ (cong· (refl≈ p) (mul_inv hn)) (mul_one p)))))

  term_near : (i : ℕ) → Near (whole 2 ·f (unit i ·f w)) (term z i) (term z' i)
  unfolding term ◌÷f◌
  term_near i =
      let e : 2 * i + 1 ≡ suc (2 * i) = omega arith in
      let n : Fraction = whole (suc (2 * i)) in
      let p : powf z' (2 * i) ≤f unit i = trans≤ (power≤unit (trans≤ nz l) s (2 * i)) (unit≤ (omega arith)) in
      let q = near_times (whole 2) (nonneg 2) (power_near nz l nw h (2 * i)) in
      rw e
      (near_more (near_between (near_times (inv n) (inv_nonneg n) q) (mul_comm (inv n) _).to (mul_comm _ (inv n)).to)
      (trans≤ (mul_comm (inv n) _).to (trans≤ (cancelled n _ (whole_pos (omega arith))).to (mul_left≤ (nonneg 2) (mul≤ nw p)))))

  terms_near_by : (k : ℕ) → Near (whole 2 ·f (sum_of unit k ·f w)) (terms z k) (terms z' k)
  unfolding terms sum_of
  terms_near_by zero = near_below (mul_nonneg (nonneg 2) (mul_nonneg (refl≤ (whole 0)) nw)) (refl≤ (whole 0))
  terms_near_by (suc k) =
      near_more (near_sum (terms_near_by k) (term_near k))
      (trans≤ (mul_add (whole 2) _ _).fro (cong· (refl≈ (whole 2)) (add_mul (sum_of unit k) (unit k) w)).fro)

  pub terms_near : (k : ℕ) → Near (whole 4 ·f w) (terms z k) (terms z' k)
  terms_near k =
      near_more (terms_near_by k)
      (trans≤ (mul_left≤ (nonneg 2) (mul≤ nw (units_sum≤ k)))
      (trans≤ (mul_assoc (whole 2) (whole 2) w).fro (cong· (whole_mul 2 2) (refl≈ w)).fro))

-- at 0 there is nothing
zero_power : (n : ℕ) → powf (whole 0) (suc n) ≈f whole 0
unfolding powf
zero_power n = mul_zero (powf (whole 0) n)

pub terms_zero : (k : ℕ) → terms (whole 0) k ≤f whole 0
unfolding terms term ◌÷f◌
terms_zero zero = refl≤ (whole 0)
terms_zero (suc k) =
    let e : 2 * k + 1 ≡ suc (2 * k) = omega arith in
    let t : whole 2 ·f powf (whole 0) (2 * k + 1) ·f inv (whole (2 * k + 1)) ≤f whole 0 =
    rw e
    (trans≤ (mul≤ (inv_nonneg _) (trans≤ (cong· (refl≈ (whole 2)) (zero_power (2 * k))).to (mul_zero (whole 2)).to))
    (trans≤ (mul_comm (whole 0) _).to (mul_zero _).to)) in
    trans≤ (mono+ (terms_zero k) t) (add-zero (whole 0)).to

-- ---- the tail

half≤ : half ≤f whole 1 −f half ·f half
unfolding inv whole ◌−f◌ ◌+f◌ ◌·f◌ neg
half≤ = record { le = lit≤ tt }

inverse_half : inv half ≤f whole 2
unfolding inv whole
inverse_half = record { le = lit≤ tt }

module _ {z : Fraction} (nz : whole 0 ≤f z) (s : z ≤f half) where
  pub tail≤units : (k : ℕ) → tail z k ≤f whole 4 ·f unit k
  unfolding ◌÷f◌
  tail≤units k =
      let N : Fraction = whole (2 * k + 1) in
      let nh : whole 0 ≤f half = inv_nonneg (whole 2) in
      let d : half ≤f whole 1 −f z ·f z = trans≤ half≤ (mono− (refl≤ (whole 1)) (mono· nz nh s s)) in
      let p : powf z (2 * k + 1) ≤f unit k = trans≤ (power≤unit nz s (2 * k + 1)) (unit≤ (omega arith)) in
      let g : inv (N ·f half) ≤f whole 2 =
      trans≤ (inv≤ (inv_pos (whole 2)) (trans≤ (one-mul half).fro (mul≤ nh (whole≤ (omega arith))))) inverse_half in
      let two : whole 0 ≤f whole 2 ·f unit k = mul_nonneg (nonneg 2) (unit_nonneg k) in
      trans≤ (tail_below z (unit k) k half (unit_nonneg k) (inv_pos (whole 2)) d p)
      (trans≤ (mul_left≤ two g)
      (trans≤ (mul_comm _ (whole 2)).to
      (trans≤ (mul_assoc (whole 2) (whole 2) (unit k)).fro (cong· (whole_mul 2 2) (refl≈ (unit k))).fro)))
