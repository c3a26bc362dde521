-- What the widths of mesh and step voltage refer to, ρ·Ki·IG with Ki computed with na and the current's upper end: the lower end of ρ·Ki·IG
-- is at most 1.24 of it.
use Prim.Native.Nat.{ℕ, ◌+◌, ◌*◌, ◌^◌, ◌≤◌, ◌<◌}
use mathlib.Core.Path.{◌≡◌, ap}
use native.Mathlib.{Omega.{arith}, Nat.{le_trans, mul-le-mul_left, mul-le-mul_right, le_of_mul-le-mul_right}}
use lib.{Dec.{lit<}, IntN.{pos}}
use Rattle.interval.specs.Operations.{natural}
use Rattle.exact.specs.{Fraction.{Fraction, ◌≤f◌, ◌≈f◌, whole, decimal, ◌+f◌, ◌·f◌, inv, ◌÷f◌}, Ends.{Ends}}
use Rattle.exact.{specs.Reported.{ten, over, reported, AtMost}, proofs.Order.{trans≤, le_of_lt, refl≈, sym≈, trans≈}}
use Rattle.exact.proofs.{Sums.{cong+, mono+, le+}, Products.{mul_assoc, mul≤, mul_left≤, mul_nonneg, cong·}}
use Rattle.exact.proofs.Quotients.{clamped, inv_nonneg, div≤}
use Rattle.case.specs.{declared.Case.{Case}, Bounds.{Bounds}}
use Rattle.formulas.{specs.{Lengths.{ρ, na}, Width.{μA, reference_ki}}, proofs.Positive.{decimal_nonneg, ρ_pos, na_pos}}
use Rattle.effective_number.{specs.Counts.{spacings, half_perimeter}, proofs.{Table.{number_known}, NumberSpans.{half_bounds}}}
use Rattle.effective_number.proofs.NumberEnclosed.{counts, na_is}
use Rattle.current.specs.Ends.{ig_ends}
use Rattle.drive.proofs.Spans.{current_low, current_high, current_is, current_order, low, low_below}

-- p/q
ratio : (p q : ℕ) → 0 < q → Fraction
ratio p q h = record { plus = p; minus = 0; den = q; positive = h }

ratio_is : (p q : ℕ) (h : 0 < q) → whole p ÷f whole q ≈f ratio p q h
unfolding ratio whole inv ◌÷f◌ ◌·f◌
ratio_is p q h = omega (arith, ap (λ t. p * t) (clamped h))

-- m in 10^−9 against s·(0.644 + 0.148·p/q)·g, g in 10^−6
by_counts_lem : (m s g p q : ℕ) (h : 0 < q) → m * (100 * q) ≤ 124 * (644 * q + 148 * p) * (g * s)
    → over (pos m) (ten 9) ≤f decimal 124 2 ·f (whole s ·f (decimal 644 3 +f decimal 148 3 ·f ratio p q h) ·f over (pos g) (ten 6))
unfolding ratio whole decimal over ten ◌·f◌ ◌+f◌
by_counts_lem m s g p q h k = record { le = omega (arith, k) }

amperes_nonneg : (g : ℕ) → whole 0 ≤f over (pos g) (ten 6)
unfolding whole over ten
amperes_nonneg g = record { le = omega arith }

module _ {c : Case} (b : Bounds c) where
  -- the upper end of the current, in amperes
  abbrev upper_current : Fraction
  upper_current = (reported μA (ig_ends c)).upper

  upper_is : upper_current ≡ over (pos (current_high b)) (ten 6)
  unfolding reported μA natural
  upper_is = rw (current_is b)

  abbrev half : ℕ
  half = half_perimeter c.across c.along

  within_na : low b * (100 * half) ≤ 124 * (644 * half + 148 * spacings c.across c.along) * (current_high b * c.soil)
  within_na =
      let i = current_low b * c.soil in
      let lower : low b * (100 * half) ≤ 124 * (644 * half + 148 * spacings c.across c.along) * i
      = le_of_mul-le-mul_right {k = 10 ^ 7}
      (omega (
        arith,
        mul-le-mul_right (100 * half_perimeter c.across c.along) (low_below b),
        mul-le-mul_right i
            (number_known (counts b)).by_na,
      ))
      (lit< tt) in
      le_trans lower (mul-le-mul_left _ (mul-le-mul_right c.soil (current_order b)))

  pub reference_above : over (pos (low b)) (ten 9) ≤f decimal 124 2 ·f (ρ c ·f reference_ki c ·f upper_current)
  unfolding ρ reference_ki
  reference_above =
      let h : 0 < half = omega (arith, (half_bounds (counts b)).low) in
      let p = spacings c.across c.along in
      let same : ratio p half h ≈f na c = sym≈ (trans≈ (na_is b) (ratio_is p half h)) in
      rw upper_is
      (trans≤ (by_counts_lem (low b) c.soil (current_high b) p half h within_na)
      (cong· (refl≈ (decimal 124 2)) (cong· (cong· (refl≈ (whole c.soil))
      (cong+ (refl≈ (decimal 644 3)) (cong· (refl≈ (decimal 148 3)) same))) (refl≈ _))).to)

  -- over a length
  module _ (len : Fraction) where
    reference : Fraction
    reference = ρ c ·f reference_ki c ·f upper_current ÷f len

    reference_nonneg : whole 0 ≤f reference
    unfolding reference reference_ki ◌÷f◌
    reference_nonneg =
        let Ki = trans≤ (decimal_nonneg 644 3) (le+ (mul_nonneg (decimal_nonneg 148 3) (le_of_lt (na_pos b)))) in
        mul_nonneg (mul_nonneg (mul_nonneg (le_of_lt (ρ_pos b)) Ki) (rw upper_is (amperes_nonneg (current_high b)))) (inv_nonneg len)

    reference_over : {q : Fraction} → q ≤f over (pos (low b)) (ten 9) ÷f len → q ≤f decimal 124 2 ·f reference
    unfolding reference ◌÷f◌
    reference_over h =
        trans≤ h (trans≤ (div≤ len reference_above) (mul_assoc (decimal 124 2) (ρ c ·f reference_ki c ·f upper_current) (inv len)).to)

    -- the width that §5.8 allows, from a share of the lower end over the length and an extra
    pub reference_width : {q share extra : Fraction} {A : Ends} → whole 0 ≤f share → share ·f decimal 124 2 ≤f decimal 1 5
        → extra ≤f decimal 10 3 → q ≤f over (pos (low b)) (ten 9) ÷f len → AtMost (share ·f q +f extra) A
        → AtMost (decimal 1 5 ·f (ρ c ·f reference_ki c ·f (reported μA (ig_ends c)).upper ÷f len) +f decimal 10 3) A
    unfolding reference
    reference_width {share = share} n s e h w =
        record {
          apart =
              trans≤ w.apart
              (mono+ (trans≤ (mul_left≤ n (reference_over h))
              (trans≤ (mul_assoc share (decimal 124 2) reference).fro (mul≤ reference_nonneg s))) e);
        }
