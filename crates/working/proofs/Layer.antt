-- Cs as one fraction: that it lies between its ends, and that Q is Cs times the surface's resistivity.
use Prim.Native.Nat.{ℕ, ◌+◌, ◌*◌, ◌^◌, ◌≤◌, ◌<◌}
use mathlib.Core.{Path.{◌≡◌, refl}, Logic.{⊎_elim}}
use native.Mathlib.{Omega.{arith}, Nat.{mul-le-mul, mul-le-mul_left, mul-pos}}
use borrow.Author.Tests.{eq-eqb, ne_eqb}
use lib.IntN.{pos}
use Rattle.interval.{specs.{Operations.{point, quotient_of}, Span.{Span}}, proofs.{Span.{span_point, span_divide}, Rules.{lits}}}
use Rattle.interval.proofs.NumeralSpans.{numeral_point, numeral_wider}
use Rattle.exact.specs.{Fraction.{Fraction, ◌≈f◌, whole, decimal, ◌+f◌, neg, ◌−f◌, ◌·f◌, ◌÷f◌}, Exact.{exactly}, Reported.{ten, reported}}
use Rattle.exact.proofs.{Order.{refl≈, sym≈, trans≈, whole_pos}, Sums.{cong−}, Products.{cong·, one-mul}, Points.{Point, point_same}}
use Rattle.enclosure.{specs.Enclosure.{Encloses}, proofs.Basics.{encloses_exactly, encloses_whole}}
use Rattle.case.specs.{declared.Case.{Case}, Bounds.{Between, Bounds, Bare, Layered}}
use Rattle.formulas.specs.{Lengths.{ρ}, Tolerable.{ρs, hs, Q}}
use Rattle.formulas.proofs.Surface.{quotient_is, divisor, thickness, thickness_pos, effect, effect_is}
use Rattle.tolerable.proofs.Layer.{by_surface}
use Rattle.step.proofs.Ratios.{ratio, counted, counted_point}
use Rattle.working.specs.{Surface.{Cs, surface}, Ends.{derated, full, cs_ends}}

module _ (soil layer thick : ℕ) (p : 0 < layer) where
  below : 0 < layer * (2 * thick + 90)
  below = mul-pos p (omega arith)

  -- ρ/ρs
  soil_is : whole soil ÷f whole layer ≈f ratio soil layer p
  unfolding whole ◌·f◌
  soil_is = quotient_is (ratio soil layer p) (whole_pos p) (omega arith)

  -- 0.09(1 − ρ/ρs)/(2hs + 0.09)
  share : Fraction
  share = record { plus = 90 * layer; minus = 90 * soil; den = layer * (2 * thick + 90); positive = below }

  multiplied : share ·f thickness thick ≈f decimal 9 2 ·f (whole 1 −f ratio soil layer p)
  unfolding share thickness whole decimal ◌·f◌ ◌+f◌ ◌−f◌ neg
  multiplied = omega arith

  share_is : decimal 9 2 ·f (whole 1 −f whole soil ÷f whole layer) ÷f thickness thick ≈f share
  share_is =
      quotient_is share (thickness_pos thick)
      (trans≈ multiplied (cong· (refl≈ (decimal 9 2)) (cong− (refl≈ (whole 1)) (sym≈ soil_is))))

  -- Cs
  derating : Fraction
  derating = ratio (2 * (layer * thick) + 90 * soil) (layer * (2 * thick + 90)) below

  less_share : whole 1 −f share ≈f derating
  unfolding share derating whole ◌−f◌ ◌+f◌ neg
  less_share = omega arith

  derating_is : whole 1 −f decimal 9 2 ·f (whole 1 −f whole soil ÷f whole layer) ÷f thickness thick ≈f derating
  derating_is = trans≈ (cong− (refl≈ (whole 1)) share_is) less_share

  counted_is : derating ≈f counted (2 * (layer * thick) + 90 * soil) (layer * (2 * thick + 90)) (10 ^ 9) below (ten 9)
  unfolding derating counted ten
  counted_is = omega arith

  -- between its ends
  between : Point derating
      (reported (ten 9) (quotient_of (point (pos (2 * (layer * thick) + 90 * soil))) (point (pos (layer * (2 * thick + 90)))) (10 ^ 9)))
  between = point_same counted_is (counted_point (2 * (layer * thick) + 90 * soil) (layer * (2 * thick + 90)) (10 ^ 9) below (ten 9))

  -- Q
  effect_follows : effect soil layer thick ≈f derating ·f whole layer
  unfolding effect divisor derating whole ◌·f◌
  effect_follows = omega arith

-- there is a layer where the code has passed the test for bare soil
pub not_bare : {c : Case} → Bounds c → ¬ (c.layer ≡ 0) → Layered c
not_bare {c} b h = ⊎_elim (λ (z : Bare c). absurd (h z.layer)) (λ l. l) b.surface

some_layer : {c : Case} → Layered c → 0 < c.layer
some_layer l = omega (arith, l.layer.low)

module _ {c : Case} (b : Bounds c) where
  layered_encloses : Layered c
      → Encloses (exactly (whole 1 −f decimal 9 2 ·f (whole 1 −f ρ c ÷f ρs c) ÷f (whole 2 ·f hs c +f decimal 9 2))) (ten 9)
      (quotient_of (point (pos (derated c))) (point (pos (full c))) (10 ^ 9))
  unfolding derated full ρ ρs hs thickness reported
  layered_encloses l =
      let p = some_layer l in
      let q = point_same (derating_is c.soil c.layer c.thick p) (between c.soil c.layer c.thick p) in
      encloses_exactly q.low q.high

  pub factor_encloses : Encloses (exactly (Cs c)) (ten 9) (cs_ends c)
  unfolding Cs cs_ends ten
  factor_encloses =
      ⊎_elim (λ (z : Bare c). rw (eq-eqb c.layer 0 z.layer) (encloses_whole 1 (ten 9) refl))
      (λ (l : Layered c). rw (ne_eqb c.layer 0 (λ e. omega (arith, l.layer.low))) (layered_encloses l)) b.surface

  layered_follows : Layered c
      → ρs c −f decimal 9 2 ·f (ρs c −f ρ c) ÷f (whole 2 ·f hs c +f decimal 9 2)
      ≈f (whole 1 −f decimal 9 2 ·f (whole 1 −f ρ c ÷f ρs c) ÷f (whole 2 ·f hs c +f decimal 9 2)) ·f ρs c
  unfolding ρ ρs hs thickness
  layered_follows l =
      let p = some_layer l in
      trans≈ (effect_is c.soil c.layer c.thick)
      (trans≈ (effect_follows c.soil c.layer c.thick p)
      (cong· (sym≈ (derating_is c.soil c.layer c.thick p)) (refl≈ (whole c.layer))))

  pub effect_is_derated : Q c ≈f Cs c ·f surface c
  unfolding Q Cs surface
  effect_is_derated =
      ⊎_elim (λ (z : Bare c). rw (eq-eqb c.layer 0 z.layer) (sym≈ (one-mul (ρ c))))
      (λ (l : Layered c). rw (ne_eqb c.layer 0 (λ e. omega (arith, l.layer.low))) (layered_follows l)) b.surface

  -- ---- sizes

  pub full_bounds : Layered c → Between 13000 (full c) 6900000
  unfolding full
  full_bounds l =
      let from : 130 ≤ 2 * c.thick + 90 = omega (arith, l.thick.low) in
      let to : 2 * c.thick + 90 ≤ 690 = omega (arith, l.thick.high) in
      record { low = mul-le-mul l.layer.low from; high = mul-le-mul l.layer.high to }

  pub derated_most : Layered c → derated c ≤ 6450000
  unfolding derated
  derated_most l = omega (arith, mul-le-mul l.layer.high l.thick.high, b.soil.high)

  -- Cs is at least 0.3
  derated_least : Layered c → 3 * full c ≤ 10 * derated c
  unfolding derated full
  derated_least l = omega (arith, mul-le-mul_left c.layer l.thick.low)

  pub factor_span : Span (cs_ends c) 300000000 6450000000000000 1
  unfolding cs_ends
  factor_span =
      by_surface (λ i. Span i 300000000 6450000000000000 1) b.surface
      (λ z. numeral_wider (numeral_point (10 ^ 9) {l = 10 ^ 9} {h = 10 ^ 9} (lits tt)) (lits tt))
      (λ l.
      let p : 0 < full c = omega (arith, (full_bounds l).low) in
      span_divide (full c) (10 ^ 9) 300000000 6450000000000000 0 p (omega (arith, derated_least l))
      (omega (arith, derated_most l, (full_bounds l).low)) (omega arith)
      (span_point (derated c) {l = derated c} {h = 6450000} (omega arith) (derated_most l)))
