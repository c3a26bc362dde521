-- Q with a surface layer as one fraction, (2·thick·layer + 90·soil)/(2·thick + 90).
use Prim.Native.Nat.{ℕ, ◌+◌, ◌*◌, ◌≤◌, ◌<◌}
use native.Mathlib.{Omega.{arith}, Nat.{mul-le-mul_left, mul-le-mul_right}}
use Rattle.exact.specs.Fraction.{Fraction, ◌≤f◌, ◌<f◌, ◌≈f◌, whole, decimal, ◌+f◌, neg, ◌−f◌, ◌·f◌, inv, ◌÷f◌}
use Rattle.exact.proofs.{Order.{refl≈, sym≈, trans≈}, Sums.{cong−}, Products.{mul_assoc, mul_one, cong·}, Quotients.{mul_inv}}

-- c is a / b where c b is a
pub quotient_is : {a b : Fraction} (c : Fraction) → whole 0 <f b → c ·f b ≈f a → a ÷f b ≈f c
unfolding ◌÷f◌
quotient_is {a} {b} c p e =
    trans≈ (cong· (sym≈ e) (refl≈ (inv b))) (trans≈ (mul_assoc c b (inv b)) (trans≈ (cong· (refl≈ c) (mul_inv p)) (mul_one c)))

-- 2 thick + 90
unfoldable pub divisor : ℕ → ℕ
divisor thick = 2 * thick + 90

pub divisor_pos : (thick : ℕ) → 0 < divisor thick
unfolding divisor
divisor_pos thick = omega arith

-- 2·hs + 0.09
unfoldable pub thickness : ℕ → Fraction
thickness thick = whole 2 ·f decimal thick 3 +f decimal 9 2

pub thickness_pos : (thick : ℕ) → whole 0 <f thickness thick
unfolding thickness whole decimal ◌·f◌ ◌+f◌
thickness_pos thick = record { lt = omega arith }

module _ (soil layer thick : ℕ) where
  -- 90 (layer − soil) / (2 thick + 90)
  share : Fraction
  share = record { plus = 90 * layer; minus = 90 * soil; den = divisor thick; positive = divisor_pos thick }

  share_is : share ·f thickness thick ≈f decimal 9 2 ·f (whole layer −f whole soil)
  unfolding share thickness whole decimal ◌·f◌ ◌+f◌ ◌−f◌ neg divisor
  share_is = omega arith

  -- Q as one fraction
  unfoldable pub effect : Fraction
  effect = record { plus = layer * divisor thick + 90 * soil; minus = 90 * layer; den = divisor thick; positive = divisor_pos thick }

  less_share : whole layer −f share ≈f effect
  unfolding share effect whole ◌−f◌ ◌+f◌ neg
  less_share = omega arith

  pub effect_is : whole layer −f decimal 9 2 ·f (whole layer −f whole soil) ÷f thickness thick ≈f effect
  effect_is = trans≈ (cong− (refl≈ (whole layer)) (quotient_is share (thickness_pos thick) share_is)) less_share

slope : {s t : ℕ} (thick : ℕ) → s ≤ t → divisor thick * s + 90 * t ≤ divisor thick * t + 90 * s
unfolding divisor
slope thick l = omega (arith, mul-le-mul_left thick l)

-- it falls less than the resistivity does
pub effect_cross : (s t layer thick : ℕ) → s ≤ t → effect t layer thick ·f whole s ≤f effect s layer thick ·f whole t
unfolding effect whole ◌·f◌
effect_cross s t layer thick l = record { le = omega (arith, mul-le-mul_right (divisor thick) core) }
  where
    core : (layer * divisor thick + 90 * t) * s + 90 * layer * t ≤ (layer * divisor thick + 90 * s) * t + 90 * layer * s
    core = omega (arith, mul-le-mul_left layer (slope thick l))

pub effect_nonneg : (s layer thick : ℕ) → whole 0 ≤f effect s layer thick
unfolding effect divisor whole
effect_nonneg s layer thick = record { le = omega arith }
