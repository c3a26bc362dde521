-- The argument of r = (p/q) / 2^m = p / b: it is (p − b) / (p + b), at most a third, and so many units rounded down.
use Prim.Native.Nat.{ℕ, ◌+◌, ◌-◌, ◌*◌, ◌^◌, ◌≤◌}
use mathlib.Core.Path.{◌≡◌, refl, ap}
use native.Mathlib.{Omega.{arith}, Nat.{add-zero, div-mul-le_self, mul-le-mul_right, le_of_mul-le-mul_right}}
use lib.Pow.{pow_pos}
use Rattle.exact.specs.{Fraction.{Fraction, ◌≤f◌, ◌≈f◌, whole, ◌+f◌, neg, ◌−f◌, ◌·f◌, inv, ◌÷f◌}, Logarithm.{argument}}
use Rattle.exact.proofs.{Order.{trans≤}, LogArgument.{argument≤}, Quotients.{clamped}, Halvings.{reduced_low, reduced_high}}
use Rattle.exact.proofs.Rounding.{units, Toward, toward_trans, toward_same, Is, rounded}
use Rattle.logarithm.specs.{Series.{unit}, Ends.{halvings_of, base_of, argument_of}}
use Rattle.logarithm.proofs.{Ratio.{ratio_low_lem, base_below, base_above, base_pos}, Rounding.{binary}, Rest.{third}}

-- p / b
ratio : ℕ → {b : ℕ} → 1 ≤ b → Fraction
ratio p {b} h = record { plus = p; minus = 0; den = b; positive = h }

argument_is : {p b : ℕ} (h : 1 ≤ b) → b ≤ p → Is binary ((p - b) * unit) (p + b) (argument (ratio p h))
unfolding ratio argument whole ◌+f◌ neg ◌−f◌ ◌·f◌ inv ◌÷f◌
argument_is {p} {b} h l =
    let e : (inv (ratio p h +f whole 1)).den ≡ p + b = omega arith in
    let n : (p - b) + b ≡ p = omega arith in
    record { divisor = omega arith; value = omega (arith, ap (λ t. (p - b) * b * t) e, ap (λ t. t * (b * (p + b))) n) }

-- p/q divided by 2^m
abbrev pub reduced : ℕ → ℕ → Fraction
reduced p q = (whole p ÷f whole q) ÷f whole (2 ^ halvings_of p q)

module _ {p q : ℕ} (hq : 1 ≤ q) (l : q ≤ p) where
  reduced_is : reduced p q ≈f ratio p (base_pos hq l)
  unfolding ratio whole ◌·f◌ inv ◌÷f◌ base_of
  reduced_is =
      let m = 2 ^ halvings_of p q in
      let e : (reduced p q).den ≡ q * m = rw (clamped hq, clamped (pow_pos (halvings_of p q))) (omega arith) in
      omega (arith, ap (λ t. p * t) e)

  pub reduced_least : whole 1 ≤f reduced p q
  unfolding halvings_of
  reduced_least = reduced_low (ratio_low_lem hq l)

  pub reduced_most : reduced p q ≤f whole 2
  unfolding halvings_of
  reduced_most = reduced_high (ratio_low_lem hq l)

  pub argument_third : argument (reduced p q) ≤f third
  argument_third = argument≤ reduced_least reduced_most

  argument_same : argument (ratio p (base_pos hq l)) ≈f argument (reduced p q)
  argument_same =
      let e = reduced_is in
      record { to = argument≤ (trans≤ reduced_least e.to) e.fro; fro = argument≤ reduced_least e.to }

  argument_toward : (up : ℕ) → Toward up (units binary (argument_of p q + up)) (argument (reduced p q))
  unfolding argument_of
  argument_toward up = toward_trans (rounded (argument_is (base_pos hq l) (base_below hq l)) up) (toward_same up argument_same)

  pub argument_low : units binary (argument_of p q) ≤f argument (reduced p q)
  argument_low = rw add-zero at ((argument_toward 0).down refl)

  pub argument_high : argument (reduced p q) ≤f units binary (argument_of p q + 1)
  argument_high = (argument_toward 1).upward (omega arith)

  -- 3 (p − b) ≤ p + b
  pub argument_size : 3 * argument_of p q ≤ unit
  unfolding argument_of
  argument_size =
      let b = base_of p q in
      let h : 3 * (p - b) ≤ p + b = omega (arith, base_above hq l) in
      le_of_mul-le-mul_right {k = p + b}
      (omega (arith, div-mul-le_self ((p - b) * unit) (p + b), mul-le-mul_right unit h)) (omega (arith, base_pos hq l))
