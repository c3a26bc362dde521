-- The mesh voltage's ends include the exact value's ends.
use Prim.Native.Nat.{ℕ, ◌+◌, ◌*◌, ◌^◌}
use mathlib.Core.Path.{refl}
use native.Mathlib.Omega.{arith}
use lib.{Dec.{eqb, lit≤}, IntN.{pos}}
use Rattle.interval.{specs.Operations.{point}, proofs.Span.{span_divisor}}
use Rattle.exact.specs.{Fraction.{Fraction, ◌≈f◌, decimal, ◌+f◌, ◌·f◌}, Exact.{exactly, ◌+x◌, ◌·x◌, ◌÷x◌}, Reported.{ten, over}}
use Rattle.exact.proofs.{Order.{trans≈}, Sums.{cong+}, Products.{cong·}, Reported.{decimal_over}}
use Rattle.exact.proofs.{Consistency.{consistent_exactly, consistent_quotient}, Factors.{factor_last}}
use Rattle.exact.proofs.Quantity.{quantity_exactly, quantity_product}
use Rattle.enclosure.{specs.Enclosure.{Encloses}, proofs.{SquareRoot.{pair_ends}, Counts.{decimal_count}}}
use Rattle.enclosure.proofs.{Basics.{encloses_same, encloses_count, encloses_decimal}, Sums.{encloses_sum}, Products.{encloses_product}}
use Rattle.enclosure.proofs.{Quotients.{encloses_quotient}, Roots.{encloses_sqrt_even}}
use Rattle.case.specs.{declared.Case.{Case}, Bounds.{Bounds, Rodded}}
use Rattle.formulas.specs.{Lengths.{ρ, Lr, Lc, LR, Ki}, Current.{IG}, Mesh.{diagonal, LM, mesh}, Width.{m_v}}
use Rattle.formulas.proofs.{Consistent.{consistent-Km}, Positive.{LR_pos}}
use Rattle.formulas.proofs.Quantities.{quantity-Ki, quantity_IG, quantity_diagonal, quantity_weight, quantity_LM, place_rodded}
use Rattle.formulas.proofs.Conductors.{by_both}
use Rattle.drive.proofs.Enclosed.{drive_consistent, drive_encloses}
use Rattle.lengths.specs.Lengths.{side_x, side_y, lc_mm, lr_mm, lt_mm}
use Rattle.lengths.proofs.Lengths.{x_is, y_is, conductor_is, rod_is, total_is}
use Rattle.mesh.specs.Ends.{diagonal_ends, rod_weight, weighed_length, lm_ends, driven_ends, mesh_ends}
use Rattle.mesh.proofs.{LengthSpans.{diagonal_span, lm_span, lm_low}, FactorEnclosed.{factor_encloses}}

-- ---- fractions as counts

squares_is : (x y : ℕ) → decimal x 3 ·f decimal x 3 +f decimal y 3 ·f decimal y 3 ≈f over (pos (x * x + y * y)) (ten 6)
unfolding decimal over ten ◌·f◌ ◌+f◌
squares_is x y = omega arith

rod_share : (m : ℕ) → decimal 122 2 ·f decimal m 3 ≈f over (pos (122 * m)) (ten 5)
unfolding decimal over ten ◌·f◌
rod_share m = omega arith

-- a length of k mm in 10^−6 m
pub length_encloses : {q : Fraction} (k : ℕ) → q ≈f decimal k 3 → Encloses (exactly q) (ten 6) (point (pos (1000 * k)))
unfolding ten
length_encloses k e = encloses_count (pos (1000 * k)) (ten 6) (trans≈ e (decimal_count k 3 1000 (ten 6) refl (omega arith)))

module _ {c : Case} (b : Bounds c) where
  -- ---- LM

  diagonal_encloses : Encloses (diagonal c) (ten 6) (diagonal_ends c)
  unfolding diagonal diagonal_ends ten
  diagonal_encloses =
      let x = side_x c in
      let y = side_y c in
      encloses_sqrt_even (ten 6) {v = ten 6} (x * x + y * y) (10 ^ 6) refl (omega arith) (pair_ends ((x * x + y * y) * 10 ^ 6))
      (encloses_count (pos (x * x + y * y)) (ten 6) (trans≈ (cong+ (cong· (x_is c) (x_is c)) (cong· (y_is c) (y_is c))) (squares_is x y)))

  weight_encloses : Encloses (exactly (decimal 155 2) +x exactly (decimal 122 2 ·f Lr c) ÷x diagonal c) (ten 9) (rod_weight c)
  unfolding rod_weight Lr ten
  weight_encloses =
      encloses_sum (consistent_exactly _)
      (consistent_quotient (quantity_diagonal b).positive (consistent_exactly _) (quantity_diagonal b).consistent)
      (encloses_decimal 155 2 10000000 (ten 9) refl refl)
      (encloses_quotient (ten 9) {a = point (pos (122 * c.rodlen))} 10000000000 refl (span_divisor (lit≤ tt) (diagonal_span b)).0
      (consistent_exactly _) (quantity_diagonal b).consistent
      (encloses_count (pos (122 * c.rodlen)) (ten 5) (rod_share c.rodlen)) diagonal_encloses)

  weighed_encloses : Rodded c
      → Encloses (exactly (Lc c)
      +x (exactly (decimal 155 2) +x exactly (decimal 122 2 ·f Lr c) ÷x diagonal c) ·x exactly (LR c))
      (ten 6) (weighed_length c)
  unfolding weighed_length ten
  weighed_encloses r =
      let weight = quantity_weight b r in
      let rods = encloses_count (pos (lr_mm c)) (ten 3) (trans≈ (rod_is c) (decimal_over (lr_mm c) 3)) in
      encloses_sum (consistent_exactly _) (quantity_product weight (quantity_exactly (LR_pos r))).consistent
      (length_encloses (lc_mm c) (conductor_is c))
      (encloses_product (ten 6) 1000000 refl weight.consistent (consistent_exactly _) weight_encloses rods)

  pub lm_encloses : Encloses (LM c) (ten 6) (lm_ends c)
  unfolding LM lm_ends
  lm_encloses =
      by_both (λ x i. Encloses x (ten 6) i) (eqb c.place 1) (λ e. weighed_encloses (place_rodded b e))
      (λ e. length_encloses (lt_mm c) (total_is c))

  -- ---- the mesh voltage

  pub driven_encloses : Encloses (exactly (ρ c) ·x Ki c ·x IG c ÷x LM c) m_v (driven_ends c)
  unfolding driven_ends m_v ten
  driven_encloses =
      encloses_quotient (ten 3) 1 refl (span_divisor (omega (arith, lm_low b)) (lm_span b)).0 (drive_consistent b)
      (quantity_LM b).consistent (drive_encloses b) lm_encloses

  -- the code's order: (ρ·Ki·IG/LM)·Km
  pub mesh_encloses : Encloses (mesh c) m_v (mesh_ends c)
  unfolding mesh mesh_ends m_v ten
  mesh_encloses =
      let m = quantity_LM b in
      encloses_same
      (factor_last (consistent_exactly (ρ c)) (consistent-Km b) (quantity-Ki b).consistent (quantity_IG b).consistent m.consistent
      m.positive (lit≤ tt))
      (encloses_product m_v 10000000 refl (consistent_quotient m.positive (drive_consistent b) m.consistent) (consistent-Km b)
      driven_encloses (factor_encloses b))
