-- What the methods of an interval require, from spans.
use Prim.Native.Nat.{ℕ, ◌+◌, ◌*◌, ◌^◌, ◌≤◌, ◌<◌}
use native.Mathlib.{Omega.{arith}, Nat.{mul-le-mul, mul-le-mul_right, lt_of_le_of_lt}}
use mathlib.Core.Path.{◌≡◌, ◌∙◌}
use lib.{IntN.{pos}, Signed.{◌≤ℤ◌}}
use Rattle.interval.specs.{Operations.{size}, Span.{Span}, declared.Interval.{Interval}}
use mir.Facts.{to_z-of_z}
use Rattle.interval.proofs.{Held.{Held}, Span.{span_lower, span_upper, span_size, span_divisor}}
use Rattle.whole.proofs.Bits.{read}

pub sum_fits : {i j : Interval} {l h w l' h' w' : ℕ} → h + h' < 2 ^ 63 → Span i l h w → Span j l' h' w' → size i + size j < 2 ^ 63
sum_fits p s t = omega (arith, span_size s, span_size t)

pub scaled_fits : {i : Interval} {l h w k : ℕ} (m : ℕ) → m < 2 ^ 63 → h * m < 2 ^ 63 → k ≤ m → Span i l h w
    → (k < 2 ^ 63) × (size i * k < 2 ^ 63)
scaled_fits m p q r s = (omega arith, lt_of_le_of_lt (mul-le-mul (span_size s) r) q)

pub outward_fits : {i : Interval} {l h w d : ℕ} → 0 < d → h < 2 ^ 63 → Span i l h w → (0 < d) × (size i < 2 ^ 63)
outward_fits p q s = (p, omega (arith, span_size s))

pub product_fits : {i j : Interval} {l h w l' h' w' d : ℕ} → 0 < d → h * h' < 2 ^ 63 → Span i l h w → Span j l' h' w'
    → (0 < d) × (size i * size j < 2 ^ 63)
product_fits p q s t = (p, lt_of_le_of_lt (mul-le-mul (span_size s) (span_size t)) q)

pub quotient_fits : {i j : Interval} {l h w l' h' w' k : ℕ} → k < 2 ^ 63 → h * k < 2 ^ 63 → 1 ≤ l' → Span i l h w → Span j l' h' w'
    → ((pos 1 ≤ℤ j.lower) × (j.lower ≤ℤ j.upper)) × ((k < 2 ^ 63) × (size i * k < 2 ^ 63))
quotient_fits {k = k} p q r s t = (span_divisor r t, (p, lt_of_le_of_lt (mul-le-mul_right k (span_size s)) q))

-- ---- what the locals hold of an interval with natural ends

module _ {i : Interval} {l h w : ℕ} (held : Held i) (s : Span i l h w) where
  pub read_lower : read i.lower ≡ pos s.a
  read_lower = to_z-of_z held.0 ∙ span_lower s

  pub read_upper : read i.upper ≡ pos s.b
  read_upper = to_z-of_z held.1 ∙ span_upper s
