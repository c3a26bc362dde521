-- Products of pairs over a divisor, within 64 bits.
use Prim.Native.Nat.{ℕ, ◌+◌, ◌*◌, ◌/◌, ◌^◌, ◌≤◌, ◌<◌}
use mathlib.Core.Path.{◌≡◌}
use native.Mathlib.{Omega.{arith}, Nat.{mul-le-mul_left}}
use Rattle.whole.{specs.Whole.{ceil_div}, proofs.{Rounding.{floor_div_most}, WideProduct.{wide_less}}}
use Rattle.interval.specs.{Wide.{Wide}, Span.{Span}, Operations.{natural, product_of}, declared.Interval.{Interval}}
use Rattle.interval.proofs.Natural.{natural_product}

pub wide_is : {i j : Interval} {d : ℕ} (w : Wide i j d) → product_of i j d ≡ natural (w.k * w.x / d) (ceil_div (w.l * w.y) d)
wide_is w = rw (w.first, w.second) (natural_product w.first_order w.second_order w.fits.divisor)

-- from spans: h times d, and h times h' over d
pub wide_fits : {i j : Interval} {l h m l' h' m' : ℕ} (d q : ℕ) → 0 < d → h * d + d < 2 ^ 63 → h' ≤ q * d → h * q + h < 2 ^ 63
    → Span i l h m → Span j l' h' m' → Wide i j d
wide_fits {h = h} {h' = h'} d q p r t u s v =
    let n : h' / d ≤ q = floor_div_most h' {w = q} p (omega arith) in
    record {
      k = s.a;
      l = s.b;
      x = v.a;
      y = v.b;
      first = s.is;
      second = v.is;
      first_order = s.order;
      second_order = v.order;
      fits = wide_less s.to v.to (record { divisor = p; rest = r; quotient = omega (arith, mul-le-mul_left h n) });
    }
