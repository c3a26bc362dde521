-- The ends of Km include the exact value's ends.
use Prim.Native.Nat.{◌+◌, ◌*◌, ◌^◌}
use mathlib.Core.Path.{refl}
use native.Mathlib.Omega.{arith}
use lib.{Dec.{eqb, lit≤}, IntN.{pos}}
use Rattle.interval.proofs.Span.{span_divisor}
use Rattle.exact.specs.{Fraction.{◌≈f◌, whole, decimal, ◌+f◌}, Exact.{exactly, ◌−x◌, ◌·x◌, ◌÷x◌}, Pi.{π}, Logarithm.{ln}}
use Rattle.exact.specs.{Depth.{work_depth, Consistent}, Reported.{ten, over}}
use Rattle.exact.proofs.{Consistency.{consistent_exactly, consistent_sum, consistent_product}, Inclusion.{within_trans, within_same}}
use Rattle.exact.proofs.{Logarithm.{ln_value, ln_exactly, consistent_ln}, Positive.{positive_exactly}}
use Rattle.exact.proofs.Quantity.{Quantity, quantity_π, quantity_quotient}
use Rattle.enclosure.{specs.Enclosure.{Encloses}, proofs.{SquareRoot.{pair_ends}, Basics.{encloses_count, encloses_whole}}}
use Rattle.enclosure.proofs.{Sums.{encloses_sum, encloses_times}, Products.{encloses_product}, Quotients.{encloses_quotient}}
use Rattle.enclosure.proofs.{Roots.{encloses_sqrt_even}, Constants.{π_encloses}}
use Rattle.logarithm.proofs.LnEnds.{ln_encloses}
use Rattle.case.specs.{declared.Case.{Case}, Bounds.{Bounds}}
use Rattle.formulas.{specs.{Lengths.{n, h}, Mesh.{G, Kh, Kii, Km}}, proofs.MeshArgument.{G_pos}}
use Rattle.formulas.proofs.{Quantities.{quantity_turn, quantity-Kh, quantity-Kii, quantity_spread}, Conductors.{by_both}}
use Rattle.mesh.specs.Factor.{argument_log, kh_ends, kii_ends, inner_term, km_ends}
use Rattle.mesh.proofs.{Argument.{top_inside, bottom_inside, G_is}, FactorSpans.{turn_span, depth_span}}
use Rattle.conductors.proofs.WeightsEnclosed.{spread_encloses, inner_encloses}

module _ {c : Case} (b : Bounds c) where
  -- ---- ln G

  log_encloses : Encloses (ln (exactly (G c))) (ten 9) (argument_log c)
  unfolding argument_log
  log_encloses =
      record {
        within =
            rw (ln_exactly (G c) work_depth)
            (within_trans (within_same (ln_value (G_pos b) (G_is b) work_depth)) (ln_encloses (top_inside b) (bottom_inside b)));
      }

  -- ---- Kh and Kii

  depth_count : whole 1 +f h c ≈f over (pos (1000 + c.depth)) (ten 3)
  unfolding h whole decimal over ten ◌+f◌
  depth_count = omega arith

  pub depth_encloses : Encloses (Kh c) (ten 9) (kh_ends c)
  unfolding Kh kh_ends ten
  depth_encloses =
      encloses_sqrt_even (ten 9) {v = ten 3} (1000 + c.depth) 1000 refl (omega arith) (pair_ends ((1000 + c.depth) * 10 ^ 15))
      (encloses_count (pos (1000 + c.depth)) (ten 3) depth_count)

  pub kii_encloses : Encloses (Kii c) (ten 9) (kii_ends c)
  unfolding Kii kii_ends ten
  kii_encloses = by_both (λ x i. Encloses x (ten 9) i) (eqb c.place 1) (λ e. encloses_whole 1 (ten 9) refl) (λ e. inner_encloses b)

  -- ---- Km

  ratio_consistent : Quantity (Kii c ÷x Kh c)
  ratio_consistent = quantity_quotient (quantity-Kii b) (quantity-Kh b)

  log_consistent : Consistent (ln (exactly (whole 8) ÷x (π ·x (exactly (whole 2) ·x n c −x exactly (whole 1)))))
  log_consistent = consistent_ln (quantity_spread b).positive (quantity_spread b).consistent

  term_encloses : Encloses (Kii c ÷x Kh c ·x ln (exactly (whole 8) ÷x (π ·x (exactly (whole 2) ·x n c −x exactly (whole 1))))) (ten 9)
      (inner_term c)
  unfolding inner_term ten
  term_encloses =
      encloses_product (ten 9) 1000000000 refl ratio_consistent.consistent log_consistent
      (encloses_quotient (ten 9) 1000000000 refl (span_divisor (lit≤ tt) (depth_span b)).0 (quantity-Kii b).consistent
      (quantity-Kh b).consistent kii_encloses depth_encloses)
      (spread_encloses b)

  pub factor_encloses : Encloses (Km c) (ten 7) (km_ends c)
  unfolding Km km_ends ten
  factor_encloses =
      let log = consistent_ln (positive_exactly (G_pos b)) (consistent_exactly (G c)) in
      let term = consistent_product ratio_consistent.consistent log_consistent in
      encloses_quotient (ten 7) 10000000 refl (span_divisor (lit≤ tt) turn_span).0 (consistent_sum log term) quantity_turn.consistent
      (encloses_sum log term log_encloses term_encloses) (encloses_times 2 quantity_π.consistent π_encloses)
