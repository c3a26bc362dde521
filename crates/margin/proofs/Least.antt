-- A margin is the smallest whole number that is enough, and at most 0 exactly where the voltage is at most what is tolerable.
use Prim.Native.Nat.{ℕ, ◌+◌, ◌*◌, ◌≤◌, ◌<◌}
use mathlib.Core.Path.{◌≡◌, ap}
use native.Mathlib.{Omega.{arith}, Nat.{mul-le-mul_left, mul-le-mul_right}}
use lib.{IntN.{pos}, Signed.{◌≤ℤ◌}}
use Rattle.whole.{specs.{Signed.{plus, minus}, Whole.{ceil_div}}, proofs.Signed.{difference_is, le_halves, halves_le}}
use Rattle.whole.proofs.Rounding.{ceil_div_above, ceil_div_below, ceil_div_by}
use Rattle.margin.specs.{Margin.{whole, margin}, Meaning.{IsMargin}}

-- all of the tolerable voltage and the margin are the share
pub share_parts : (v t : ℕ) → whole + plus (margin v t) ≡ ceil_div (whole * v) t + minus (margin v t)
unfolding margin
share_parts v t = omega (arith, difference_is (pos (ceil_div (whole * v) t)) (pos whole))

module _ (v : ℕ) {t : ℕ} (p : 0 < t) where
  pub is_margin : IsMargin v t (margin v t)
  is_margin =
      let e = ap (λ n. n * t) (share_parts v t) in
      record { enough = omega (arith, e, ceil_div_above (whole * v) p); least = omega (arith, e, ceil_div_below (whole * v) p) }

  pub at_most_zero : v ≤ t → margin v t ≤ℤ pos 0
  at_most_zero h =
      halves_le (margin v t) (pos 0) (omega (arith, share_parts v t, ceil_div_by (whole * v) {w = whole} p (mul-le-mul_left whole h)))

  pub zero_at_most : margin v t ≤ℤ pos 0 → v ≤ t
  zero_at_most h =
      let few : ceil_div (whole * v) t ≤ whole = omega (arith, share_parts v t, le_halves h) in
      omega (arith, ceil_div_above (whole * v) p, mul-le-mul_right t few)
