-- Intervals below 0 as minus an interval of naturals: products with one, and sums.
use Prim.Native.Nat.{ℕ, zero, suc, ◌+◌, ◌-◌, ◌*◌, ◌/◌, ◌≤◌, ◌<◌}
use mathlib.Core.Path.{◌≡◌, refl, sym, ap, ◌∙◌}
use native.Mathlib.{Omega.{arith}, Nat.{mul-le-mul_left, mul-le-mul_right}}
use lib.IntN.{pos, neg_ℤ, neg_ℤ-neg_ℤ, ◌*ℤ◌}
use Rattle.whole.specs.Whole.{floor_z, ceil_z, ceil_div}
use Rattle.whole.proofs.{Signed.{size_neg}, BelowZero.{min_rising, max_rising, min_falling, max_falling}, Rounding.{floor_pos, ceil_pos}}
use Rattle.interval.specs.declared.Interval.{Interval}
use Rattle.interval.specs.Operations.{natural, point, size, sum_of, difference_of, minus_of, corners_of, outward_of, product_of}
use Rattle.interval.specs.Span.{Span}
use Rattle.interval.proofs.Natural.{point_natural, natural_difference, natural_product}

-- ---- products

pos_neg : (m n : ℕ) → pos m *ℤ neg_ℤ (pos n) ≡ neg_ℤ (pos (m * n))
pos_neg m zero = let e : m * 0 ≡ 0 = omega arith in rw e
pos_neg m (suc n) = refl

floor_negated : (n : ℕ) {d : ℕ} → 0 < d → floor_z (neg_ℤ (pos n)) d ≡ neg_ℤ (pos (ceil_div n d))
unfolding ceil_z
floor_negated n {d} h = sym (neg_ℤ-neg_ℤ (floor_z (neg_ℤ (pos n)) d)) ∙ ap neg_ℤ (ceil_pos n h)

ceil_negated : (n : ℕ) {d : ℕ} → 0 < d → ceil_z (neg_ℤ (pos n)) d ≡ neg_ℤ (pos (n / d))
unfolding ceil_z
ceil_negated n h = rw (neg_ℤ-neg_ℤ (pos n), floor_pos n h)

outward_negated : (m n : ℕ) {den : ℕ} → 0 < den → outward_of (minus_of (natural m n)) den ≡ minus_of (natural (m / den) (ceil_div n den))
unfolding outward_of minus_of natural
outward_negated m n {den} h = cc (floor_negated n h, ceil_negated m h)

module _ {a b c d : ℕ} (ab : a ≤ b) (cd : c ≤ d) where
  corners_negated : corners_of (natural a b) (minus_of (natural c d)) ≡ minus_of (natural (a * c) (b * d))
  unfolding corners_of minus_of natural
  corners_negated =
      rw (pos_neg a d, pos_neg a c, pos_neg b d, pos_neg b c)
      (cc (
        min_rising (mul-le-mul_left a cd),
        min_rising (mul-le-mul_left b cd),
        min_falling (mul-le-mul_right d ab),
        max_rising (mul-le-mul_left a cd),
        max_rising (mul-le-mul_left b cd),
        max_falling (mul-le-mul_right c ab),
      ))

  natural_negated : {den : ℕ} → 0 < den
      → product_of (natural a b) (minus_of (natural c d)) den ≡ minus_of (product_of (natural a b) (natural c d) den)
  unfolding product_of
  natural_negated {den} h =
      ap (λ i. outward_of i den) corners_negated ∙ outward_negated (a * c) (b * d) h ∙ ap minus_of (sym (natural_product ab cd h))

pub product_negated : {i j : Interval} {l h w l' h' w' den : ℕ} → Span i l h w → Span j l' h' w' → 0 < den
    → product_of i (minus_of j) den ≡ minus_of (product_of i j den)
product_negated s t p = rw (s.is, t.is) (natural_negated s.order t.order p)

-- ---- sums and sizes

pub sum_negated : (i j : Interval) → sum_of i (minus_of j) ≡ difference_of i j
unfolding sum_of difference_of minus_of
sum_negated i j = refl

pub span_difference : {i j : Interval} {l h w l' h' w' : ℕ} → h' ≤ l → Span i l h w → Span j l' h' w' → Span (difference_of i j) 0 h (w + w')
span_difference p s t =
    let q : t.b ≤ s.a = omega (arith, s.from, t.to) in
    let r : t.a ≤ s.b = omega (arith, t.order, s.order) in
    record {
      a = s.a - t.b;
      b = s.b - t.a;
      is = rw (s.is, t.is) (natural_difference s.a s.b t.a t.b q r);
      from = omega arith;
      order = omega (arith, t.order, s.order);
      to = omega (arith, s.to);
      near = omega (arith, s.near, t.near);
    }

-- less a number
pub span_less : {i : Interval} {l h w : ℕ} (k : ℕ) → k ≤ l → Span i l h w → Span (difference_of i (point (pos k))) (l - k) (h - k) w
span_less k p s =
    let q : k ≤ s.a = omega (arith, s.from) in
    let r : k ≤ s.b = omega (arith, s.order) in
    record {
      a = s.a - k;
      b = s.b - k;
      is = rw (s.is, point_natural k) (natural_difference s.a s.b k k q r);
      from = omega (arith, s.from);
      order = omega (arith, s.order);
      to = omega (arith, s.to);
      near = omega (arith, s.near);
    }

pub size_negated : (i : Interval) → size (minus_of i) ≡ size i
unfolding size minus_of
size_negated i = omega (arith, size_neg i.lower, size_neg i.upper)
