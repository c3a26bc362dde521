-- The step voltage's ends include the exact value's ends.
use Prim.Native.Nat.{ℕ, ◌+◌, ◌*◌, ◌^◌}
use mathlib.Core.Path.{refl}
use native.Mathlib.Omega.{arith}
use lib.{Dec.{lit≤}, IntN.{pos}}
use Rattle.interval.proofs.Span.{span_divisor}
use Rattle.exact.specs.{Fraction.{◌≈f◌, decimal, ◌+f◌, ◌·f◌}, Exact.{exactly, ◌·x◌, ◌÷x◌}, Reported.{ten, over}}
use Rattle.exact.proofs.{Order.{refl≈, trans≈}, Sums.{cong+}, Products.{cong·}, Consistency.{consistent_exactly, consistent_quotient}}
use Rattle.exact.proofs.{Factors.{factor_last}, Reported.{decimal_over}, Quantity.{quantity_exactly}}
use Rattle.enclosure.{specs.Enclosure.{Encloses}, proofs.{Basics.{encloses_same, encloses_count}, Products.{encloses_product}}}
use Rattle.enclosure.proofs.Quotients.{encloses_quotient}
use Rattle.case.specs.{declared.Case.{Case}, Bounds.{Bounds}}
use Rattle.formulas.{specs.{Lengths.{ρ, Ki}, Current.{IG}, Step.{LS, step}, Width.{m_v}}, proofs.Positive.{LS_pos}}
use Rattle.formulas.proofs.{Quantities.{quantity-Ki, quantity_IG}, Consistent.{consistent-Ks}}
use Rattle.lengths.{specs.Lengths.{lc_mm, lr_mm}, proofs.Lengths.{conductor_is, rod_is}}
use Rattle.drive.proofs.Enclosed.{drive_consistent, drive_encloses}
use Rattle.step.specs.Ends.{ls_twentieths, driven_ends, step_voltage_ends}
use Rattle.step.proofs.{Spans.{length_span}, FactorEnclosed.{factor_encloses}}

weighted : (m k : ℕ) → decimal 75 2 ·f decimal m 3 +f decimal 85 2 ·f decimal k 3 ≈f decimal (50 * (15 * m + 17 * k)) 6
unfolding decimal ◌·f◌ ◌+f◌
weighted m k = omega arith

-- LS in micrometres
pub length_is : (c : Case) → LS c ≈f over (pos (50 * ls_twentieths c)) (ten 6)
unfolding LS ls_twentieths
length_is c =
    trans≈ (cong+ (cong· (refl≈ (decimal 75 2)) (conductor_is c)) (cong· (refl≈ (decimal 85 2)) (rod_is c)))
    (trans≈ (weighted (lc_mm c) (lr_mm c)) (decimal_over _ 6))

module _ {c : Case} (b : Bounds c) where
  driven_encloses : Encloses (exactly (ρ c) ·x Ki c ·x IG c ÷x exactly (LS c)) m_v (driven_ends c)
  unfolding driven_ends m_v ten
  driven_encloses =
      encloses_quotient (ten 3) 1 refl (span_divisor (lit≤ tt) (length_span b)).0 (drive_consistent b) (consistent_exactly (LS c))
      (drive_encloses b) (encloses_count (pos (50 * ls_twentieths c)) (ten 6) (length_is c))

  -- the code's order: (ρ·Ki·IG/LS)·Ks
  pub step_encloses : Encloses (step c) m_v (step_voltage_ends c)
  unfolding step step_voltage_ends m_v ten
  step_encloses =
      let s = quantity_exactly (LS_pos b) in
      encloses_same
      (factor_last (consistent_exactly (ρ c)) (consistent-Ks b) (quantity-Ki b).consistent (quantity_IG b).consistent s.consistent
      s.positive (lit≤ tt))
      (encloses_product {u = ten 3} {v = ten 7} (ten 3) (10 ^ 7) refl
      (consistent_quotient s.positive (drive_consistent b) s.consistent)
      (consistent-Ks b) driven_encloses (factor_encloses b))
