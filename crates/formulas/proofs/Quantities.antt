-- Ki, IG and the parts of Km, Ks and LM are positive and consistent.
use mathlib.Core.{Path.{◌≡◌}, Bool.{true}}
use native.Mathlib.Omega.{arith}
use lib.Dec.{lit<, eqb, eqb→eq}
use Rattle.exact.specs.{Fraction.{Fraction, ◌<f◌, whole, decimal, ◌·f◌}, Exact.{exactly, ◌+x◌, ◌−x◌, ◌·x◌, ◌÷x◌}, Logarithm.{ln}}
use Rattle.exact.{specs.{Depth.{Consistent}, Root.{root}, Pi.{π}}, proofs.{Order.{whole_pos, nonneg, le_of_lt}, Sums.{le+}}}
use Rattle.exact.proofs.{Products.{mul-pos}, Consistency.{consistent_exactly, consistent_difference, consistent_product, consistent_minus}}
use Rattle.exact.proofs.{Logarithm.{consistent_ln}, Exponential.{consistent_exp, positive_exp}}
use Rattle.exact.proofs.Positive.{at_least_times, positive_exactly, positive_less}
use Rattle.exact.proofs.Quantity.{Quantity, quantity_exactly, quantity_sum, quantity_product, quantity_quotient, quantity_root, quantity_π}
use Rattle.case.specs.{declared.Case.{Case}, Bounds.{Bounds, Rodded}}
use Rattle.formulas.specs.{Lengths.{ρ, equal_counts, n, Ki, Lr}, Current.{IG}, Mesh.{Kh, inner_weight, Kii, diagonal, LM}}
use Rattle.formulas.specs.Step.{half_power}
use Rattle.formulas.proofs.Positive.{decimal_pos, one_thousandth, four_squares, ρ_pos, h_pos, Lc-pos, LT_pos, diagonal_least, rodded}
use Rattle.formulas.proofs.{Positive.{Lr-pos, LR_pos}, Decrement.{quantity-Df}, Conductors.{by_place, n_least, quantity_n}}

pub one : Quantity (exactly (whole 1))
one = quantity_exactly (whole_pos (omega arith))

pub two : Quantity (exactly (whole 2))
two = quantity_exactly (whole_pos (omega arith))

pub quantity_turn : Quantity (exactly (whole 2) ·x π)
quantity_turn = quantity_product two quantity_π

module _ {c : Case} (b : Bounds c) where
  -- ---- ρ, Ki, IG

  pub quantity_ρ : Quantity (exactly (ρ c))
  quantity_ρ = quantity_exactly (ρ_pos b)

  pub quantity-Ki : Quantity (Ki c)
  unfolding Ki
  quantity-Ki =
      quantity_sum (quantity_exactly (decimal_pos 3 (omega arith)))
      (quantity_product (quantity_exactly (decimal_pos 3 (omega arith))) (quantity_n b))

  pub quantity_IG : Quantity (IG c)
  unfolding IG
  quantity_IG =
      quantity_product
      (quantity_exactly (mul-pos (whole_pos (omega (arith, b.fault.low))) (decimal_pos 3 (omega (arith, b.split.low)))))
      (quantity-Df b)

  -- ---- the parts of Km

  pub quantity-Kh : Quantity (Kh c)
  unfolding Kh
  quantity-Kh = quantity_root 2 (omega arith) (one_thousandth (le+ (le_of_lt (h_pos b))))

  pub quantity_line_root : Quantity (root c.across (exactly (whole 4 ·f whole c.across ·f whole c.across)))
  quantity_line_root =
      quantity_root c.across (omega (arith, b.across.low)) (one_thousandth (four_squares (omega (arith, b.across.low))))

  pub twice_n : Quantity (exactly (whole 2) ·x n c)
  twice_n = quantity_product two (quantity_n b)

  -- (p/n)·ln(q·n)
  pub consistent_logarithm : {p q : Fraction} → whole 0 <f p → whole 0 <f q → Consistent (exactly p ÷x n c ·x ln (exactly q ·x n c))
  consistent_logarithm p q =
      let m = quantity_product (quantity_exactly q) (quantity_n b) in
      consistent_product (quantity_quotient (quantity_exactly p) (quantity_n b)).consistent (consistent_ln m.positive m.consistent)

  -- (2/n)·ln(2n)
  pub consistent_inner : Consistent (exactly (whole 2) ÷x n c ·x ln (exactly (whole 2) ·x n c))
  consistent_inner = consistent_logarithm (whole_pos (omega arith)) (whole_pos (omega arith))

  pub quantity_inner_weight : Quantity (inner_weight c)
  unfolding inner_weight
  quantity_inner_weight =
      by_place Quantity (equal_counts c) (λ e. quantity_quotient one quantity_line_root)
      (λ e.
      record {
        consistent = consistent_exp (consistent_minus (consistent_logarithm (whole_pos (omega arith)) (whole_pos (omega arith))));
        positive = positive_exp _;
      })

  pub quantity-Kii : Quantity (Kii c)
  unfolding Kii
  quantity-Kii = by_place Quantity (eqb c.place 1) (λ e. one) (λ e. quantity_inner_weight)

  one_below : whole 1 <f whole 2 ·f whole 1
  unfolding whole ◌·f◌
  one_below = record { lt = lit< tt }

  -- 2n − 1, where 2n is at least 2
  pub quantity_odd : Quantity (exactly (whole 2) ·x n c −x exactly (whole 1))
  quantity_odd =
      record {
        consistent = consistent_difference twice_n.consistent (consistent_exactly (whole 1));
        positive =
            positive_less one_below twice_n.consistent (at_least_times (whole 2) (nonneg 2) (quantity_n b).consistent (n_least b));
      }

  pub quantity_spread : Quantity (exactly (whole 8) ÷x (π ·x (exactly (whole 2) ·x n c −x exactly (whole 1))))
  quantity_spread = quantity_quotient (quantity_exactly (whole_pos (omega arith))) (quantity_product quantity_π quantity_odd)

  -- ---- 0.5^(n−2)

  -- (n − p)·ln q
  pub consistent_halvings : (p : Fraction) {q : Fraction} → whole 0 <f q → Consistent ((n c −x exactly p) ·x ln (exactly q))
  consistent_halvings p {q} l =
      consistent_product (consistent_difference (quantity_n b).consistent (consistent_exactly p))
      (consistent_ln (positive_exactly l) (consistent_exactly q))

  pub consistent_half_exponent : Consistent ((n c −x exactly (whole 2)) ·x ln (exactly (whole 2)))
  consistent_half_exponent = consistent_halvings (whole 2) (whole_pos (omega arith))

  pub consistent_half_power : Consistent (half_power c)
  unfolding half_power
  consistent_half_power =
      by_place Consistent (equal_counts c) (λ e. consistent_exactly _)
      (λ e. consistent_exp (consistent_minus (consistent_halvings _ (whole_pos (omega arith)))))

  -- ---- LM

  pub quantity_diagonal : Quantity (diagonal c)
  unfolding diagonal
  quantity_diagonal = quantity_root 2 (omega arith) (one_thousandth (diagonal_least b))

  -- p + q·Lr/diagonal
  weighted : {p q : Fraction} → whole 0 <f p → whole 0 <f q → Rodded c → Quantity (exactly p +x exactly (q ·f Lr c) ÷x diagonal c)
  weighted p q r = quantity_sum (quantity_exactly p) (quantity_quotient (quantity_exactly (mul-pos q (Lr-pos r))) quantity_diagonal)

  pub quantity_weight : Rodded c → Quantity (exactly (decimal 155 2) +x exactly (decimal 122 2 ·f Lr c) ÷x diagonal c)
  quantity_weight r = weighted (decimal_pos 2 (omega arith)) (decimal_pos 2 (omega arith)) r

  pub place_rodded : eqb c.place 1 ≡ true → Rodded c
  place_rodded e = rodded b (eqb→eq c.place 1 (rw e tt))

  pub quantity_LM : Quantity (LM c)
  unfolding LM
  quantity_LM =
      by_place Quantity (eqb c.place 1)
      (λ e.
      let r = place_rodded e in
      quantity_sum (quantity_exactly (Lc-pos b))
      (quantity_product (weighted (decimal_pos 2 (omega arith)) (decimal_pos 2 (omega arith)) r) (quantity_exactly (LR_pos r))))
      (λ e. quantity_exactly (LT_pos b))
