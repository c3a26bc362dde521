-- k · x over a divisor by the quotient and the remainder of x, rounded down and up.
use Prim.Native.Nat.{ℕ, ◌+◌, ◌-◌, ◌*◌, ◌/◌, ◌%◌, ◌^◌, ◌≤◌, ◌<◌}
use mathlib.Core.Path.{◌≡◌, sym, ap, ◌∙◌}
use native.Mathlib.Omega.{arith}
use native.Mathlib.Nat.{add-zero, mod-lt, div-add-mod', mul-add-div_right, mul-le-mul, mul-le-mul_left, mul-le-mul_right, le_of_lt}
use Rattle.whole.specs.{Whole.{ceil_div}, Wide.{WideFits}}
use Rattle.whole.proofs.Rounding.{floor_div_below, floor_div_by, floor_div_most}

module _ (k x : ℕ) {d : ℕ} (p : 0 < d) where
  -- k · x is k · (x / d) times d, and k · (x % d)
  parts : (q r : ℕ) → q * d + r ≡ x → k * q * d + k * r ≡ k * x
  parts q r e = omega arith ∙ ap (λ t. k * t) e

  pub wide_floor : k * (x / d) + k * (x % d) / d ≡ k * x / d
  wide_floor = sym (mul-add-div_right p (k * (x / d)) (k * (x % d))) ∙ ap (λ t. t / d) (parts (x / d) (x % d) (div-add-mod' x d))

  pub wide_ceil : k * (x / d) + (k * (x % d) + (d - 1)) / d ≡ ceil_div (k * x) d
  unfolding ceil_div
  wide_ceil =
      let e : k * (x / d) * d + (k * (x % d) + (d - 1)) ≡ k * x + (d - 1)
      = omega (arith, parts (x / d) (x % d) (div-add-mod' x d)) in
      sym (mul-add-div_right p (k * (x / d)) (k * (x % d) + (d - 1))) ∙ ap (λ t. t / d) e

-- ---- within 64 bits

module _ {k x d : ℕ} (w : WideFits k x d) where
  rest_high_lem : k * (x % d) ≤ k * d
  rest_high_lem = mul-le-mul_left k (le_of_lt (mod-lt x w.divisor))

  -- with whatever rounds it up
  rounded_parts : (r : ℕ) → r < d → k * (x / d) + (k * (x % d) + r) / d < 2 ^ 63
  rounded_parts r h = omega (arith, w.quotient, floor_div_most (k * (x % d) + r) {w = k} w.divisor (omega (arith, rest_high_lem)))

  floor_parts : k * (x / d) + k * (x % d) / d < 2 ^ 63
  floor_parts = rw add-zero at (rounded_parts 0 w.divisor)

  ceil_parts : k * (x / d) + (k * (x % d) + (d - 1)) / d < 2 ^ 63
  ceil_parts = rounded_parts (d - 1) (omega (arith, w.divisor))

  pub floor_size : k * x / d < 2 ^ 63
  floor_size = rw (wide_floor k x w.divisor) at floor_parts

  pub ceil_size : ceil_div (k * x) d < 2 ^ 63
  ceil_size = rw (wide_ceil k x w.divisor) at ceil_parts

-- of lesser numbers too
pub wide_less : {k l x y d : ℕ} → k ≤ l → x ≤ y → WideFits l y d → WideFits k x d
wide_less {k} {l} {x} {y} {d} h i w =
    let p = w.divisor in
    let q : x / d ≤ y / d = floor_div_by y p (omega (arith, floor_div_below x d)) in
    record { divisor = p; rest = omega (arith, w.rest, mul-le-mul_right d h); quotient = omega (arith, w.quotient, mul-le-mul h q) }
