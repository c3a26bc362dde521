-- e^q for q not negative at two near fractions: with one count of halvings for both, the terms at near arguments are near, and so are their
-- powers.
use Prim.Native.Nat.{ℕ, ◌-◌, ◌*◌, ◌^◌, ◌≤◌}
use native.Mathlib.{Omega.{arith}, Nat.{mul-le-mul_right, le_trans}}
use Rattle.exact.specs.Fraction.{Fraction, ◌≤f◌, whole, ◌+f◌, ◌·f◌, ◌÷f◌, top, powf}
use Rattle.exact.{specs.Exponential.{exp_terms, exp_near, doublings, small, power_ends, exp_up}, proofs.Order.{refl≤, trans≤, whole≤, nonneg}}
use Rattle.exact.proofs.Sums.{mono+, le+, add-zero}
use Rattle.exact.proofs.{Products.{mul≤, mul_left≤, mono·, mul_nonneg, mul_comm, mul_zero, mul_one, one-mul, whole_mul}, Quotients.{div≤}}
use Rattle.exact.proofs.{Powers.{below_pow}, Series.{pow_nonneg, pow≤}, Squarings.{pow_one}, Convolution.{zero_mul}}
use Rattle.exact.proofs.ExpTerms.{exp_terms≤, exp_terms_nonneg, half}
use Rattle.exact.proofs.Doublings.{doublings_least, doublings≤, halved, halved_nonneg, small_high}
use Rattle.exact.proofs.ExpUp.{up_cross, up_least, slack, slack_least, up_upper, up_lower}
use Rattle.numbers.specs.Number.{Near}
use Rattle.numbers.proofs.{Near.{near_more, near_between, near_trans, near_times}, Units.{unit, units_nonneg, unit≤}}
use Rattle.numbers.proofs.{Powers.{powers_near}, TwoPowers.{near_halved}, ExpSpread.{most, slacks, exp_spread}}
use Rattle.numbers.proofs.ExpTerms.{terms_first, terms≤two, four, exp_terms_near, slack_near, slack≤three}

-- ---- one count for all that is at most B

doublings_bounded : {q : Fraction} (B : ℕ) → q ≤f whole B → doublings q ≤ 2 * B
unfolding top whole
doublings_bounded {q} B h =
    let t : q.plus - q.minus ≤ B * q.den = omega arith in
    let b : 2 * B ≤ 2 ^ (2 * B) = omega (arith, below_pow 2 (2 * B) (omega arith)) in
    doublings_least q (2 * B) (omega (arith, t, mul-le-mul_right q.den b))

halved_high : {q : Fraction} {m : ℕ} → whole 0 ≤f q → doublings q ≤ m → halved m q ≤f half
unfolding small ◌÷f◌
halved_high {q} nq l = trans≤ (mul_left≤ nq (unit≤ l)) (small_high q)

module _ {w q q' : Fraction} {k : ℕ} (c : 1 ≤ k) (nw : whole 0 ≤f w) (nq : whole 0 ≤f q) (l : q ≤f q') (n : Near w q q') (B : ℕ)
    (h : q' ≤f whole B) where
  abbrev M : ℕ
  M = 2 * B

  abbrev a : Fraction
  a = exp_terms (halved M q) k

  abbrev t : Fraction
  t = exp_terms (halved M q') k

  abbrev b : Fraction
  b = slack k ·f t

  nq' : whole 0 ≤f q'
  nq' = trans≤ nq l

  few : doublings q' ≤ M
  few = doublings_bounded B h

  nt : whole 0 ≤f t
  nt = exp_terms_nonneg (halved_nonneg M nq') k

  t≤two : t ≤f whole 2
  t≤two = terms≤two (halved_nonneg M nq') (halved_high nq' few) k

  a≤b : a ≤f b
  a≤b = trans≤ (exp_terms≤ (halved_nonneg M nq) (div≤ _ l) k) (trans≤ (one-mul t).fro (mul≤ nt (slack_least k)))

  b≤six : b ≤f whole 6
  b≤six = trans≤ (mono· nt (nonneg 3) (slack≤three k) t≤two) (whole_mul 3 2).fro

  bases_near : Near (whole 4 ·f w +f whole 4 ·f unit k) a b
  bases_near =
      near_trans (exp_terms_near c (halved_nonneg M nq) (div≤ _ l) (halved_high nq' few) nw (near_halved M nw n))
      (near_more (near_between (near_times t nt (slack_near k)) (mul_one t).to (mul_comm (slack k) t).to)
      (trans≤ (mul≤ (units_nonneg 2 k) t≤two) (four (unit k)).to))

  upper≤ : (exp_up q' k).upper ≤f powf b (2 ^ M)
  upper≤ = up_upper c nq' (refl≤ q') few

  -- the power of the slack is near 1
  slacks_near : Near (slacks B (whole 2 ·f unit k)) (whole 1) (powf (slack k) (2 ^ M))
  slacks_near =
      near_between
      (powers_near (nonneg 1) (slack_least k) (slack≤three k) (whole≤ (omega arith)) (units_nonneg 2 k) (slack_near k) (2 ^ M))
      (pow_one (2 ^ M)).to (refl≤ _)

  lower≤ : (exp_up q k).lower ≤f most B
  lower≤ = trans≤ (up_cross nq l k k) (trans≤ upper≤ (pow≤ (trans≤ (exp_terms_nonneg (halved_nonneg M nq) k) a≤b) b≤six (2 ^ M)))

  lower_near : Near (most B ·f slacks B (whole 2 ·f unit k)) (exp_up q k).lower (powf a (2 ^ M))
  lower_near =
      let e : Fraction = (exp_up q k).lower in
      let ne : whole 0 ≤f e = trans≤ (nonneg 1) (up_least nq c) in
      near_more
      (near_between (near_times e ne slacks_near) (mul_one e).to (up_lower c nq (refl≤ q) (le_trans (doublings≤ l) few)))
      (mul≤ (mul_nonneg (nonneg (2 ^ M)) (mul_nonneg (pow_nonneg (nonneg 3) (2 ^ M)) (units_nonneg 2 k))) lower≤)

  pub exp_up_near : Near (exp_spread w B k) (exp_up q k).lower (exp_up q' k).upper
  exp_up_near =
      let nW : whole 0 ≤f whole 4 ·f w +f whole 4 ·f unit k = trans≤ (mul_nonneg (nonneg 4) nw) (le+ (units_nonneg 4 k)) in
      near_trans lower_near
      (near_between
      (powers_near (exp_terms_nonneg (halved_nonneg M nq) k) a≤b b≤six (whole≤ (omega arith)) nW bases_near (2 ^ M))
      (refl≤ _) upper≤)

-- e^0 is 1
pub exp_up_zero : (k : ℕ) → (exp_up (whole 0) k).lower ≤f whole 1
unfolding exp_up power_ends exp_near small ◌÷f◌
exp_up_zero k =
    let y : Fraction = small (whole 0) in
    let n : whole 0 ≤f y = halved_nonneg (doublings (whole 0)) (refl≤ (whole 0)) in
    let z : y ≤f whole 0 = (zero_mul _).to in
    let t : exp_terms y k ≤f whole 1 =
    trans≤ (terms_first n (small_high (whole 0)) k)
    (trans≤ (mono+ (refl≤ (whole 1)) (trans≤ (mul_left≤ (nonneg 2) z) (mul_zero (whole 2)).to)) (add-zero (whole 1)).to) in
    trans≤ (pow≤ (exp_terms_nonneg n k) t (2 ^ doublings (whole 0))) (pow_one (2 ^ doublings (whole 0))).to
