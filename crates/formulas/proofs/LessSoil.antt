-- §10.3: a lower soil resistivity, all else but station and season equal: mesh and step voltage fall in proportion to it, the tolerable
-- voltages less than that. So where a voltage is above what is tolerable with the lower resistivity, it is with the higher one, at the same
-- depth.
use Prim.Native.Nat.{ℕ, ◌≤◌}
use mathlib.Core.{Path.{◌≡◌, refl}, Logic.{◌⊎◌, inl, inr}}
use native.Mathlib.Omega.{arith}
use lib.Dec.{eqb}
use borrow.Author.Tests.{ne_eqb}
use Rattle.exact.specs.{Fraction.{Fraction, ◌≤f◌, ◌≈f◌, whole, decimal, ◌+f◌, ◌·f◌}, Exact.{Exact, exactly, ◌·x◌, ◌÷x◌, Above}}
use Rattle.exact.{specs.Depth.{Consistent}, proofs.{Order.{trans≤, refl≈, sym≈, trans≈, whole≤, nonneg}, Sums.{mono+, le+}}}
use Rattle.exact.proofs.Products.{mul_comm, mul_assoc, add_mul, cong·, mul≤, mul_left≤, mul_nonneg}
use Rattle.exact.proofs.{Consistency.{consistent_product, consistent_quotient}, Quantity.{Quantity, quantity_exactly}}
use Rattle.exact.proofs.{Factors.{factor_apart}, Proportion.{Proportion, proportion_above}}
use Rattle.case.specs.{declared.Case.{Case}, Bounds.{Bounds, Bare, Layered}, Key.{under_key}, Soil.{with_soil}}
use Rattle.formulas.specs.Decrement.{Ta, tf, Df}
use Rattle.formulas.specs.Lengths.{ρ, D, h as burial, d as diameter, Lr, Lx, Ly, Lc, Lp, area, LR, LT, √area, na, nb, n as number, Ki}
use Rattle.formulas.specs.{Current.{IG}, Tolerable.{ρs, hs, Q, k as body_factor, root_time, tolerable_touch, tolerable_step}}
use Rattle.formulas.specs.{Mesh.{G, Kh, inner_weight, Kii, Km, diagonal, LM, mesh}, Step.{half_power, LS, Ks, step}}
use Rattle.formulas.proofs.{Positive.{decimal_nonneg, ρ_pos, LS_pos}, Surface.{thickness, effect_is, effect_cross, effect_nonneg}}
use Rattle.formulas.proofs.{Conductors.{by_place}, Quantities.{quantity_ρ, quantity-Ki, quantity_IG, quantity_LM}}
use Rattle.formulas.proofs.Consistent.{quantity_root_time, consistent-Km, consistent-Ks}

-- ---- the tolerable voltages: Q falls less than the resistivity

-- a dividend (1000 + w·x)·κ against a resistivity
weighed_cross : (x y : Fraction) {w κ p q : Fraction} → whole 0 ≤f w → whole 0 ≤f κ → p ≤f q → x ·f p ≤f y ·f q
    → (whole 1000 +f w ·f x) ·f κ ·f p ≤f (whole 1000 +f w ·f y) ·f κ ·f q
weighed_cross x y {w} {κ} {p} {q} nw nκ l h =
    trans≤ (turned (whole 1000 +f w ·f x) κ p).to
    (trans≤ (mul≤ nκ
    (trans≤ (add_mul (whole 1000) (w ·f x) p).to
    (trans≤ (mono+ (mul_left≤ (nonneg 1000) l) (trans≤ (mul_assoc w x p).to (trans≤ (mul_left≤ nw h) (mul_assoc w y q).fro)))
    (add_mul (whole 1000) (w ·f y) q).fro)))
    (turned (whole 1000 +f w ·f y) κ q).fro)
  where
    turned : (a b c : Fraction) → a ·f b ·f c ≈f a ·f c ·f b
    turned a b c = trans≈ (mul_assoc a b c) (trans≈ (cong· (refl≈ a) (mul_comm b c)) (sym≈ (mul_assoc a c b)))

weighed_nonneg : {w κ x : Fraction} → whole 0 ≤f w → whole 0 ≤f κ → whole 0 ≤f x → whole 0 ≤f (whole 1000 +f w ·f x) ·f κ
weighed_nonneg nw nκ nx = mul_nonneg (trans≤ (nonneg 1000) (le+ (mul_nonneg nw nx))) nκ

Q_nonneg : (c : Case) → whole 0 ≤f Q c
unfolding Q ρ ρs hs thickness
Q_nonneg c =
    by_place (λ x. whole 0 ≤f x) (eqb c.layer 0) (λ e. nonneg c.soil)
    (λ e. trans≤ (effect_nonneg c.soil c.layer c.thick) (effect_is c.soil c.layer c.thick).fro)

body_nonneg : (c : Case) → whole 0 ≤f body_factor c
unfolding body_factor
body_nonneg c = by_place (λ x. whole 0 ≤f x) (eqb c.body 50) (λ e. decimal_nonneg 116 3) (λ e. decimal_nonneg 157 3)

-- ---- the same case with the lower resistivity, under its own station and season

module _ {c : Case} (station season s : ℕ) (b : Bounds c) (b' : Bounds (under_key station season (with_soil s c))) (l : s ≤ c.soil) where
  abbrev other : Case
  other = under_key station season (with_soil s c)

  lower_soil : ρ other ≤f ρ c
  unfolding ρ
  lower_soil = whole≤ l

  Q_cross : Bare c ⊎ Layered c → Q c ·f ρ other ≤f Q other ·f ρ c
  unfolding Q ρ ρs hs thickness
  Q_cross (inl z) = rw z.layer (mul_comm (whole c.soil) (whole s)).to
  Q_cross (inr y) =
      rw (ne_eqb c.layer 0 (λ e. omega (arith, y.layer.low)))
      (trans≤ (cong· (effect_is c.soil c.layer c.thick) (refl≈ (whole s))).to
      (trans≤ (effect_cross s c.soil c.layer c.thick l)
      (cong· (effect_is s c.layer c.thick) (refl≈ (whole c.soil))).fro))

  -- (1000 + w·Q)·k goes with the resistivity
  weighed_proportion : {w : Fraction} → whole 0 ≤f w
      → Proportion (ρ other) ((whole 1000 +f w ·f Q other) ·f body_factor c) (ρ c) ((whole 1000 +f w ·f Q c) ·f body_factor c)
  weighed_proportion nw =
      record {
        first = ρ_pos b';
        second = ρ_pos b;
        low = weighed_nonneg nw (body_nonneg c) (Q_nonneg other);
        high = weighed_nonneg nw (body_nonneg c) (Q_nonneg c);
        cross = weighed_cross (Q c) (Q other) nw (body_nonneg c) lower_soil (Q_cross b.surface);
      }

  -- ---- what does not go with the resistivity

  same-Km : Km other ≡ Km c
  unfolding Km G Kii inner_weight Kh number na nb √area Lc Lp area Lx Ly D burial diameter
  same-Km = refl

  same-Ki : Ki other ≡ Ki c
  unfolding Ki number na nb √area Lc Lp area Lx Ly D
  same-Ki = refl

  same_IG : IG other ≡ IG c
  unfolding IG Df Ta tf
  same_IG = refl

  same_LM : LM other ≡ LM c
  unfolding LM LT LR Lr diagonal Lc Lx Ly D
  same_LM = refl

  same-Ks : Ks other ≡ Ks c
  unfolding Ks half_power number na nb √area Lc Lp area Lx Ly D burial
  same-Ks = refl

  same_LS : LS other ≡ LS c
  unfolding LS LR Lr Lc Lx Ly D
  same_LS = refl

  mesh_is : mesh other ≡ exactly (ρ other) ·x Km c ·x Ki c ·x IG c ÷x LM c
  unfolding mesh
  mesh_is = rw (same-Km, same-Ki, same_IG, same_LM)

  step_is : step other ≡ exactly (ρ other) ·x Ks c ·x Ki c ·x IG c ÷x exactly (LS c)
  unfolding step
  step_is = rw (same-Ks, same-Ki, same_IG, same_LS)

  tolerable_touch_is : tolerable_touch other ≡ exactly ((whole 1000 +f decimal 15 1 ·f Q other) ·f body_factor c) ÷x root_time c
  unfolding tolerable_touch body_factor root_time
  tolerable_touch_is = refl

  tolerable_step_is : tolerable_step other ≡ exactly ((whole 1000 +f whole 6 ·f Q other) ·f body_factor c) ÷x root_time c
  unfolding tolerable_step body_factor root_time
  tolerable_step_is = refl

  -- ---- above with the lower resistivity, so above with the higher

  voltage_above : {w : Fraction} {x y : Exact} → whole 0 ≤f w → Consistent x → Quantity y
      → Above (exactly (ρ other) ·x x ·x Ki c ·x IG c ÷x y) (exactly ((whole 1000 +f w ·f Q other) ·f body_factor c) ÷x root_time c)
      → Above (exactly (ρ c) ·x x ·x Ki c ·x IG c ÷x y) (exactly ((whole 1000 +f w ·f Q c) ·f body_factor c) ÷x root_time c)
  voltage_above nw cx qy =
      let ki = (quantity-Ki b).consistent in
      let ig = (quantity_IG b).consistent in
      let t = quantity_root_time b in
      proportion_above (weighed_proportion nw)
      (consistent_quotient qy.positive (consistent_product (consistent_product cx ki) ig) qy.consistent) t.consistent t.positive
      (λ k h. factor_apart (quantity_ρ b').consistent cx ki ig qy.consistent qy.positive h)
      (λ k h. factor_apart (quantity_ρ b).consistent cx ki ig qy.consistent qy.positive h)

  pub mesh_above : Above (mesh other) (tolerable_touch other) → Above (mesh c) (tolerable_touch c)
  unfolding mesh tolerable_touch
  mesh_above a = voltage_above (decimal_nonneg 15 1) (consistent-Km b) (quantity_LM b) (rw (mesh_is, tolerable_touch_is) at a)

  pub step_above : Above (step other) (tolerable_step other) → Above (step c) (tolerable_step c)
  unfolding step tolerable_step
  step_above a = voltage_above (nonneg 6) (consistent-Ks b) (quantity_exactly (LS_pos b)) (rw (step_is, tolerable_step_is) at a)
