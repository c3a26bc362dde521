-- Q lies between the ends of the layer effect.
use Prim.Native.Nat.{ℕ, ◌+◌, ◌*◌, ◌/◌, ◌≤◌}
use mathlib.Core.{Path.{◌≡◌}, Logic.{⊎_elim}}
use native.Mathlib.Omega.{arith}
use borrow.Author.Tests.{eq-eqb, ne_eqb}
use lib.IntN.{pos}
use Rattle.whole.{specs.Whole.{ceil_div}, proofs.Rounding.{floor_div_below, ceil_div_above}}
use Rattle.interval.specs.Operations.{natural, point}
use Rattle.exact.{specs.{Fraction.{◌≤f◌, whole, decimal, ◌+f◌, ◌−f◌, ◌·f◌, ◌÷f◌}, Reported.{ten, over, reported}}, proofs.Order.{trans≤}}
use Rattle.exact.proofs.Points.{Point}
use Rattle.case.specs.{declared.Case.{Case}, Bounds.{Bounds, Bare, Layered}}
use Rattle.formulas.{specs.{Lengths.{ρ}, Tolerable.{ρs, hs, Q}}, proofs.Surface.{divisor, thickness, effect, effect_is}}
use Rattle.tolerable.specs.Ends.{layered, layer_ends}
use Rattle.tolerable.proofs.Layer.{weighed, layered_is}

module _ (soil layer thick : ℕ) where
  -- the ends rounded from 1000 Q d
  effect_low : (n a : ℕ) → n + 90000 * layer ≡ 1000 * (layer * divisor thick) + 90000 * soil → a * divisor thick ≤ n
      → over (pos a) (ten 3) ≤f effect soil layer thick
  unfolding effect over ten
  effect_low n a e h = record { le = omega (arith, h, e) }

  effect_high : (n b : ℕ) → n + 90000 * layer ≡ 1000 * (layer * divisor thick) + 90000 * soil → n ≤ b * divisor thick
      → effect soil layer thick ≤f over (pos b) (ten 3)
  unfolding effect over ten
  effect_high n b e h = record { le = omega (arith, h, e) }

module _ (c : Case) where
  bare_point : Point (ρ c) (reported (ten 3) (point (pos (1000 * c.soil))))
  unfolding ρ whole reported over ten point
  bare_point = record { low = record { le = omega arith }; high = record { le = omega arith } }

  layered_point : Point (ρs c −f decimal 9 2 ·f (ρs c −f ρ c) ÷f (whole 2 ·f hs c +f decimal 9 2)) (reported (ten 3) (layered c))
  unfolding ρs ρ hs reported thickness divisor natural
  layered_point =
      let n : ℕ = weighed c in
      let q : ℕ = 2 * c.thick + 90 in
      let e = effect_is c.soil c.layer c.thick in
      rw (layered_is c)
      (record {
        low = trans≤ (effect_low c.soil c.layer c.thick n (n / q) (omega arith) (floor_div_below n q)) e.fro;
        high = trans≤ e.to (effect_high c.soil c.layer c.thick n (ceil_div n q) (omega arith) (ceil_div_above n (omega arith)));
      })

-- Q lies between the ends of the layer effect
pub layer_point : {c : Case} → Bounds c → Point (Q c) (reported (ten 3) (layer_ends c))
unfolding Q layer_ends
layer_point {c} b =
    ⊎_elim (λ (z : Bare c). rw (eq-eqb c.layer 0 z.layer) (bare_point c))
    (λ (l : Layered c). rw (ne_eqb c.layer 0 (λ e. omega (arith, l.layer.low))) (layered_point c)) b.surface
