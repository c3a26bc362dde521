-- How spans go through the operations: each bound of a result from those of its parts.
use Prim.Native.Nat.{ℕ, ◌+◌, ◌*◌, ◌/◌, ◌≤◌, ◌<◌}
use mathlib.Core.Path.{◌≡◌, refl, ap}
use native.Mathlib.Omega.{arith}
use native.Mathlib.Nat.{mul-le-mul, mul-le-mul_left, mul-le-mul_right, le_trans, lt_of_mul-lt-mul_right, mul-lt-mul_of_pos_right}
use native.Mathlib.Nat.{le_of_suc-le-suc}
use lib.{IntN.{pos}, Signed.{◌≤ℤ◌}}
use Rattle.whole.specs.Whole.{ceil_div}
use Rattle.whole.proofs.Rounding.{floor_div_below, floor_div_above, ceil_div_above, ceil_div_below, ceil_div_by, floor_div_by}
use Rattle.whole.proofs.Signed.{halves_le}
use Rattle.interval.specs.Operations.{natural, point, size, sum_of, outward_of, scaled_of, product_of, quotient_of}
use Rattle.interval.specs.{declared.Interval.{Interval}, Span.{Span}}
use Rattle.interval.proofs.Natural.{point_natural, natural_sum, natural_scaled, natural_outward, natural_product, natural_quotient}
use Rattle.interval.proofs.Sizes.{size_natural}

-- ---- natural ends

pub span_natural : (a b : ℕ) {l h w : ℕ} → l ≤ a → a ≤ b → b ≤ h → b ≤ a + w → Span (natural a b) l h w
span_natural a b p q r s = record { a = a; b = b; is = refl; from = p; order = q; to = r; near = s }

pub span_point : (n : ℕ) {l h : ℕ} → l ≤ n → n ≤ h → Span (point (pos n)) l h 0
unfolding point natural
span_point n p q = record { a = n; b = n; is = refl; from = p; order = omega arith; to = q; near = omega arith }

-- weaker bounds
pub span_wider : {i : Interval} {l h w l' h' w' : ℕ} → Span i l h w → l' ≤ l → h ≤ h' → w ≤ w' → Span i l' h' w'
span_wider s p q r =
    record {
      a = s.a;
      b = s.b;
      is = s.is;
      from = le_trans p s.from;
      order = s.order;
      to = le_trans s.to q;
      near = omega (arith, s.near);
    }

pub span_size : {i : Interval} {l h w : ℕ} → Span i l h w → size i ≤ h
span_size s = rw (s.is, size_natural s.order) s.to

-- ---- sums and multiples

pub span_sum : {i j : Interval} {l h w l' h' w' : ℕ} → Span i l h w → Span j l' h' w' → Span (sum_of i j) (l + l') (h + h') (w + w')
span_sum {i} {j} s t =
    record {
      a = s.a + t.a;
      b = s.b + t.b;
      is = rw (s.is, t.is) (natural_sum s.a s.b t.a t.b);
      from = omega (arith, s.from, t.from);
      order = omega (arith, s.order, t.order);
      to = omega (arith, s.to, t.to);
      near = omega (arith, s.near, t.near);
    }

pub span_scaled : {i : Interval} {l h w : ℕ} (k : ℕ) → Span i l h w → Span (scaled_of i k) (l * k) (h * k) (w * k)
span_scaled k s =
    record {
      a = s.a * k;
      b = s.b * k;
      is = rw s.is (natural_scaled s.a s.b k);
      from = mul-le-mul_right k s.from;
      order = mul-le-mul_right k s.order;
      to = mul-le-mul_right k s.to;
      near = omega (arith, mul-le-mul_right k s.near);
    }

-- ---- rounding outward: a number n from a to b, m d apart, gives quotients at most m + 1 apart

pub round_near : (a b d m : ℕ) → 0 < d → b ≤ a + m * d → ceil_div b d ≤ a / d + (m + 1)
round_near a b d m p h = le_of_suc-le-suc (lt_of_mul-lt-mul_right d (omega (arith, ceil_div_below b p, floor_div_above a p)))

pub floor≤ceil : (a b d : ℕ) → 0 < d → a ≤ b → a / d ≤ ceil_div b d
floor≤ceil a b d p h = le_of_suc-le-suc (lt_of_mul-lt-mul_right d (omega (arith, floor_div_below a d, ceil_div_above b p, p)))

-- `l' d ≤ l`, `h ≤ h' d` and `w ≤ m d` give the bounds of the quotient
pub span_outward : {i : Interval} {l h w : ℕ} (d l' h' m : ℕ) → 0 < d → l' * d ≤ l → h ≤ h' * d → w ≤ m * d → Span i l h w
    → Span (outward_of i d) l' h' (m + 1)
span_outward d l' h' m p q r t s =
    record {
      a = s.a / d;
      b = ceil_div s.b d;
      is = rw s.is (natural_outward s.a s.b p);
      from = floor_div_by s.a p (le_trans q s.from);
      order = floor≤ceil s.a s.b d p s.order;
      to = ceil_div_by s.b p (le_trans s.to r);
      near = round_near s.a s.b d m p (omega (arith, s.near));
    }

-- ---- products

product_near : (a b c d w v h h' n : ℕ) → b ≤ a + w → d ≤ c + v → b ≤ h → c ≤ h' → h * v + h' * w ≤ n → b * d ≤ a * c + n
product_near a b c d w v h h' n p q r s t =
    omega (arith, mul-le-mul_right v r, mul-le-mul_right w s, mul-le-mul_left b q, mul-le-mul_right c p)

pub span_product : {i j : Interval} {l h w l' h' w' : ℕ} (den low high m : ℕ) → 0 < den → low * den ≤ l * l' → h * h' ≤ high * den
    → h * w' + h' * w ≤ m * den → Span i l h w → Span j l' h' w' → Span (product_of i j den) low high (m + 1)
span_product den low high m p q r t s u =
    let o = mul-le-mul s.order u.order in
    record {
      a = s.a * u.a / den;
      b = ceil_div (s.b * u.b) den;
      is = rw (s.is, u.is) (natural_product s.order u.order p);
      from = floor_div_by (s.a * u.a) p (le_trans q (mul-le-mul s.from u.from));
      order = floor≤ceil (s.a * u.a) (s.b * u.b) den p o;
      to = ceil_div_by (s.b * u.b) p (le_trans (mul-le-mul s.to u.to) r);
      near =
          round_near (s.a * u.a) (s.b * u.b) den m p
          (product_near s.a s.b u.a u.b _ _ _ _ (m * den) s.near u.near s.to (le_trans u.order u.to) t);
    }

-- ---- quotients: b k / c and a k / d for c ≤ d

quotient_near : (a b c d k m : ℕ) → 0 < c → c ≤ d → b * k * d ≤ a * k * c + m * (c * d) → ceil_div (b * k) c ≤ a * k / d + (m + 1)
quotient_near a b c d k m p q h =
    let e : 0 < d = le_trans p q in
    le_of_suc-le-suc
    (lt_of_mul-lt-mul_right (c * d)
    (omega (arith, mul-lt-mul_of_pos_right (ceil_div_below (b * k) p) e, mul-le-mul_right c (floor_div_above (a * k) e))))

-- the ends apart: b d ≤ a c + (w h' + h w'), where b ≤ a + w and d ≤ c + w'
cross_near : (a b c d w v h h' : ℕ) → b ≤ a + w → d ≤ c + v → a ≤ h → d ≤ h' → b * d ≤ a * c + (h * v + h' * w)
cross_near a b c d w v h h' p q r s = omega (arith, mul-le-mul_right d p, mul-le-mul_left a q, mul-le-mul_right v r, mul-le-mul_left w s)

quotient_order : (a b c d : ℕ) → 0 < c → c ≤ d → a ≤ b → a / d ≤ ceil_div b c
quotient_order a b c d p q h =
    let e : 0 < d = le_trans p q in
    le_of_suc-le-suc (lt_of_mul-lt-mul_right d (omega (arith, floor_div_below a d, ceil_div_above b p, mul-le-mul_left (ceil_div b c) q, e)))

pub span_quotient : {i j : Interval} {l h w l' h' w' : ℕ} (k low high m : ℕ) → 0 < l' → low * h' ≤ l * k → h * k ≤ high * l'
    → (h * w' + h' * w) * k ≤ m * (l' * l') → Span i l h w → Span j l' h' w' → Span (quotient_of i j k) low high (m + 1)
span_quotient k low high m p q r t s u =
    let c : 0 < u.a = le_trans p u.from in
    let e : 0 < u.b = le_trans c u.order in
    let x = cross_near s.a s.b u.a u.b _ _ _ _ s.near u.near (le_trans s.order s.to) u.to in
    let y = mul-le-mul_left m (mul-le-mul u.from (le_trans u.from u.order)) in
    record {
      a = s.a * k / u.b;
      b = ceil_div (s.b * k) u.a;
      is = rw (s.is, u.is) (natural_quotient s.a s.b k c u.order);
      from = floor_div_by (s.a * k) e (le_trans (mul-le-mul_left low u.to) (le_trans q (mul-le-mul_right k s.from)));
      order = quotient_order (s.a * k) (s.b * k) u.a u.b c u.order (mul-le-mul_right k s.order);
      to = ceil_div_by (s.b * k) c (le_trans (mul-le-mul_right k s.to) (le_trans r (mul-le-mul_left high u.from)));
      near = quotient_near s.a s.b u.a u.b k m c u.order (omega (arith, mul-le-mul_right k x, t, y));
    }

-- by one number
pub span_divide : {i : Interval} {l h w : ℕ} (d k low high m : ℕ) → 0 < d → low * d ≤ l * k → h * k ≤ high * d → w * k ≤ m * d
    → Span i l h w → Span (quotient_of i (point (pos d)) k) low high (m + 1)
span_divide d k low high m p q r t s =
    record {
      a = s.a * k / d;
      b = ceil_div (s.b * k) d;
      is = rw (s.is, point_natural d) (natural_quotient s.a s.b k p (omega arith));
      from = floor_div_by (s.a * k) p (le_trans q (mul-le-mul_right k s.from));
      order = floor≤ceil (s.a * k) (s.b * k) d p (mul-le-mul_right k s.order);
      to = ceil_div_by (s.b * k) p (le_trans (mul-le-mul_right k s.to) r);
      near = round_near (s.a * k) (s.b * k) d m p (omega (arith, mul-le-mul_right k s.near));
    }

-- ---- what a divisor asks

pub span_divisor : {i : Interval} {l h w : ℕ} → 1 ≤ l → Span i l h w → (pos 1 ≤ℤ i.lower) × (i.lower ≤ℤ i.upper)
unfolding natural
span_divisor p s =
    rw s.is (halves_le (pos 1) (pos s.a) (omega (arith, s.from)), halves_le (pos s.a) (pos s.b) (omega (arith, s.order)))

-- the ends of a span as naturals
module _ {i : Interval} {l h w : ℕ} (s : Span i l h w) where
  pub span_lower : i.lower ≡ pos s.a
  unfolding natural
  span_lower = ap (λ (j : Interval). j.lower) s.is

  pub span_upper : i.upper ≡ pos s.b
  unfolding natural
  span_upper = ap (λ (j : Interval). j.upper) s.is
