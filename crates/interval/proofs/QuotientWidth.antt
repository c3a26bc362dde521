-- How wide a quotient is: a rounded_up end over one divisor against a rounded-down end over another.
use Prim.Native.Nat.{ℕ, ◌+◌, ◌*◌, ◌≤◌, ◌<◌}
use mathlib.Core.{Path.{◌≡◌, ap}, Logic.{◌⊎◌, ⊎_elim}}
use native.Mathlib.Omega.{arith}
use native.Mathlib.Nat.{mul-le-mul, mul-le-mul_left, mul-le-mul_right, le_refl, le_trans, lt_of_mul-lt-mul_right, le_of_suc-le-suc}
use lib.{IntN.{pos, nat_abs, ◌*ℤ◌}, Signed.{◌≤ℤ◌}}
use Rattle.whole.specs.{Signed.{plus, minus}, Whole.{floor_z, ceil_z, min_z}}
use Rattle.whole.proofs.{Signed.{halves, size_is, floor_above, scale_plus, scale_minus}, Choice.{≤ℤ_trans, min_cases, max_cases}}
use Rattle.whole.proofs.Rounding.{ceil_below}
use Rattle.interval.specs.{Operations.{size, quotient_of, hull_of, outward_of, scaled_of, Ordered, Narrow}, declared.Interval.{Interval}}
use Rattle.interval.proofs.{Sizes.{size_lower, size_positive, size_rises, positive_halves}, ProductWidth.{Near}}

-- c − c' over d1 rounded up and f − f' over d2 rounded down are at most w + 1 apart, where the exact ones are at most w
cross : (c c' f f' h h' l l' k d1 d2 w : ℕ) → 0 < d1 → c * d1 + h' * k < h * k + c' * d1 + d1 → l * k + f' * d2 < f * d2 + l' * k + d2
    → (h * d2 + l' * d1) * k ≤ (l * d1 + h' * d2) * k + w * (d1 * d2) → c + f' ≤ f + c' + (w + 1)
cross c c' f f' h h' l l' k d1 d2 w t up down gap =
    le_of_suc-le-suc
    (lt_of_mul-lt-mul_right (d1 * d2) (omega (arith, mul-le-mul_right d2 up, mul-le-mul_right d1 down, gap)))

-- h · d2 − l · d1 is at most m · top + s · e, where h − l ≤ m, d2 ≤ top, and d1 and d2 are at most e apart
skew : (l l' h h' d1 d2 m s e top : ℕ) → h + l' ≤ l + h' + m → d2 ≤ top → d1 ≤ d2 + e → d2 ≤ d1 + e → l + l' ≤ s
    → (l ≡ 0) ⊎ (l' ≡ 0) → h * d2 + l' * d1 ≤ l * d1 + h' * d2 + (m * top + s * e)
skew l l' h h' d1 d2 m s e top g t u v z half =
    let common = mul-le-mul_right d2 g in
    let wide = mul-le-mul_left m t in
    let far = mul-le-mul_right e z in
    ⊎_elim
    (λ q. omega (arith, mul-le-mul_left l' u, ap (λ i. i * d1) q, ap (λ i. i * d2) q, ap (λ i. i * e) q))
    (λ q. omega (arith, mul-le-mul_left l v, ap (λ i. i * d1) q, ap (λ i. i * d2) q, ap (λ i. i * e) q))
    half

-- one rounded_up and one rounded-down end, over divisors between low and top that are at most e apart
module _ (a : Interval) (m k e w low top : ℕ) (na : Narrow a m) (tl : 0 < low) (gap : (m * top + size a * e) * k ≤ w * (low * low)) where
  ends : (d1 d2 : ℕ) → low ≤ d1 → low ≤ d2 → d2 ≤ top → d1 ≤ d2 + e → d2 ≤ d1 + e
      → Near (w + 1) (ceil_z (a.upper *ℤ pos k) d1) (floor_z (a.lower *ℤ pos k) d2)
  ends d1 d2 b1 b2 t2 u v =
      let up = ceil_below (a.upper *ℤ pos k) {d = d1} (omega arith) in
      let down = floor_above (a.lower *ℤ pos k) {d = d2} (omega arith) in
      let sized : plus a.lower + minus a.lower ≤ size a = omega (arith, size_is a.lower, size_lower a) in
      let sk =
      skew (plus a.lower) (minus a.lower) (plus a.upper) (minus a.upper) d1 d2 m (size a) e top
      (omega (arith, na.narrow)) t2 u v sized (halves a.lower) in
      let all : (m * top + size a * e) * k ≤ w * (d1 * d2) = le_trans gap (mul-le-mul_left w (mul-le-mul b1 b2)) in
      record {
        near =
            cross _ _ _ _ (plus a.upper) (minus a.upper) (plus a.lower) (minus a.lower) k d1 d2 w (omega arith)
            (rw (scale_plus a.upper k, scale_minus a.upper k) at up) (rw (scale_plus a.lower k, scale_minus a.lower k) at down)
            (omega (arith, mul-le-mul_right k sk, all));
      }

  -- over any divisor from d to d' against the lesser of the ends over d and d'
  against : (d d' : ℕ) → low ≤ d → d ≤ d' → d' ≤ top → d' ≤ d + e → (c : ℕ) → d ≤ c → c ≤ d'
      → Near (w + 1) (ceil_z (a.upper *ℤ pos k) c) (min_z (floor_z (a.lower *ℤ pos k) d) (floor_z (a.lower *ℤ pos k) d'))
  against d d' b le t ge c h g =
      min_cases (λ z. Near (w + 1) (ceil_z (a.upper *ℤ pos k) c) z) _ _
      (λ _. ends c d (omega arith) b (omega arith) (omega arith) (omega arith))
      (λ _. ends c d' (omega arith) (omega arith) t (omega arith) (omega arith))

pub width_quotient : {a : Interval} {m e : ℕ} (b : Interval) (k w : ℕ) → pos 1 ≤ℤ b.lower → Ordered b → Narrow a m → Narrow b e
    → (m * nat_abs b.upper + size a * e) * k ≤ w * (nat_abs b.lower * nat_abs b.lower) → Narrow (quotient_of a b k) (w + 1)
unfolding quotient_of hull_of outward_of scaled_of
width_quotient {a} {m} {e} b k w t o na nb gap =
    let d : ℕ = nat_abs b.lower in
    let d' : ℕ = nat_abs b.upper in
    let le : d ≤ d' = size_rises t o.ordered in
    let upper = positive_halves b.upper (≤ℤ_trans t o.ordered) in
    let ge : d' ≤ d + e = omega (arith, positive_halves b.lower t, upper, nb.narrow) in
    let at = against a m k e w d d' na (size_positive t) gap d d' (le_refl d) le (le_refl d') ge in
    let r =
    max_cases (λ z. Near (w + 1) z (quotient_of a b k).lower) _ _ (λ _. at d' le (le_refl d')) (λ _. at d (le_refl d) le) in
    record { narrow = r.near }
