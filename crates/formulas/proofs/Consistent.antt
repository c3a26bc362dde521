-- Every formula of a case within its bounds is consistent: its depths never contradict each other. Each proof follows its formula.
use native.Mathlib.Omega.{arith}
use Rattle.exact.{specs.{Fraction.{whole}, Exact.{Exact, exactly, ◌−x◌, ◌·x◌, ◌÷x◌}, Depth.{Consistent}}, proofs.Order.{whole≤}}
use Rattle.exact.proofs.Consistency.{consistent_exactly, consistent_sum, consistent_difference, consistent_product, consistent_quotient}
use Rattle.exact.proofs.{Positive.{positive_exactly}, Logarithm.{consistent_ln}}
use Rattle.exact.proofs.Quantity.{Quantity, quantity_exactly, quantity_sum, quantity_product, quantity_quotient, quantity_root, quantity_π}
use Rattle.case.specs.{declared.Case.{Case}, Bounds.{Bounds}}
use Rattle.formulas.specs.{Lengths.{ρ, D, Ki}, Current.{IG}, Tolerable.{root_time, tolerable_touch, tolerable_step}, Mesh.{Km, mesh}}
use Rattle.formulas.specs.{Step.{half_power, Ks, step}, Resistance.{√20, resistance, potential_rise}}
use Rattle.formulas.proofs.MeshArgument.{G_pos}
use Rattle.formulas.proofs.Quantities.{one, quantity_turn, quantity_ρ, quantity-Ki, quantity_IG, quantity-Kh, quantity-Kii}
use Rattle.formulas.proofs.{Quantities.{quantity_spread, consistent_half_power, quantity_LM}, Conductors.{quantity_s}}
use Rattle.formulas.proofs.Positive.{one_thousandth, millisecond, D_pos, h_pos, LT_pos, LS_pos}

pub q20 : Quantity √20
unfolding √20
q20 = quantity_root 2 (omega arith) (one_thousandth (whole≤ (omega arith)))

module _ {c : Case} (b : Bounds c) where
  pub quantity_root_time : Quantity (root_time c)
  unfolding root_time
  quantity_root_time = quantity_root 2 (omega arith) (millisecond (omega (arith, b.shock.low)))

  pub consistent_touch : Consistent (tolerable_touch c)
  unfolding tolerable_touch
  consistent_touch = consistent_quotient quantity_root_time.positive (consistent_exactly _) quantity_root_time.consistent

  pub consistent_tolerable_step : Consistent (tolerable_step c)
  unfolding tolerable_step
  consistent_tolerable_step = consistent_quotient quantity_root_time.positive (consistent_exactly _) quantity_root_time.consistent

  pub quantity_resistance : Quantity (resistance c)
  unfolding resistance
  quantity_resistance =
      quantity_product (quantity_ρ b)
      (quantity_sum (quantity_quotient one (quantity_exactly (LT_pos b)))
      (quantity_quotient
      (quantity_sum one
      (quantity_quotient one (quantity_sum one (quantity_quotient (quantity_product (quantity_exactly (h_pos b)) q20) (quantity_s b)))))
      (quantity_product (quantity_s b) q20)))

  pub consistent_rise : Consistent (potential_rise c)
  unfolding potential_rise
  consistent_rise = (quantity_product (quantity_IG b) quantity_resistance).consistent

  -- ρ·x·Ki·IG/l
  consistent_voltage : {x l : Exact} → Consistent x → Quantity l → Consistent (exactly (ρ c) ·x x ·x Ki c ·x IG c ÷x l)
  consistent_voltage k l =
      consistent_quotient l.positive
      (consistent_product (consistent_product (consistent_product (quantity_ρ b).consistent k) (quantity-Ki b).consistent)
      (quantity_IG b).consistent)
      l.consistent

  -- ---- the step voltage

  -- (1 − 0.5^(n−2))/D
  pub consistent_share : Consistent ((exactly (whole 1) −x half_power c) ÷x exactly (D c))
  consistent_share =
      let spacing = quantity_exactly (D_pos b) in
      consistent_quotient spacing.positive (consistent_difference one.consistent (consistent_half_power b)) spacing.consistent

  pub consistent-Ks : Consistent (Ks c)
  unfolding Ks
  consistent-Ks =
      consistent_quotient quantity_π.positive (consistent_sum (consistent_exactly _) consistent_share) quantity_π.consistent

  pub consistent_step : Consistent (step c)
  unfolding step
  consistent_step = consistent_voltage consistent-Ks (quantity_exactly (LS_pos b))

  -- ---- the mesh voltage

  pub consistent-Km : Consistent (Km c)
  unfolding Km
  consistent-Km =
      consistent_quotient quantity_turn.positive
      (consistent_sum (consistent_ln (positive_exactly (G_pos b)) (consistent_exactly _))
      (consistent_product (quantity_quotient (quantity-Kii b) (quantity-Kh b)).consistent
      (consistent_ln (quantity_spread b).positive (quantity_spread b).consistent)))
      quantity_turn.consistent

  pub consistent_mesh : Consistent (mesh c)
  unfolding mesh
  consistent_mesh = consistent_voltage consistent-Km (quantity_LM b)
