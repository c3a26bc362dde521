-- How relative widths go through sums, products and quotients.
use Prim.Native.Nat.{ℕ, ◌+◌, ◌-◌, ◌*◌, ◌/◌, ◌≤◌, ◌<◌}
use mathlib.Core.{Path.{◌≡◌, sym, ap, ◌∙◌}, List.{[], ◌∷◌}}
use native.Mathlib.Omega.{arith}
use native.Mathlib.Nat.{mul-le-mul, mul-le-mul_left, mul-le-mul_right, le_trans, le_of_mul-le-mul_right, lt_of_mul-lt-mul_right}
use native.Mathlib.{Nat.{le_of_suc-le-suc}, Decide.{dec_le}}
use lib.IntN.{pos, nat_abs}
use Rattle.whole.{specs.Whole.{ceil_div}, proofs.Rounding.{floor_div_above, ceil_div_below}}
use Rattle.interval.specs.{declared.Interval.{Interval}, Operations.{natural, point, sum_of, product_of, quotient_of}}
use Rattle.interval.specs.Span.{Span, Relative}
use Rattle.interval.proofs.{Rules.{◌≼◌, Kept}, Natural.{point_natural, natural_sum, natural_product, natural_quotient}}

-- the width, by ends that are known
pub relative_ends : {i : Interval} (a b : ℕ) {per extra : ℕ} → i ≡ natural a b → Relative i per extra
    → per * b ≤ (per + 1) * a + per * extra
unfolding natural
relative_ends a b e r =
    let f = sym r.is ∙ e in
    let lower : r.a ≡ a = ap (λ t. nat_abs t.lower) f in
    let upper : r.b ≡ b = ap (λ t. nat_abs t.upper) f in
    rw (lower, upper) at r.near

-- by the ends of a span
pub relative_span : {i : Interval} {l h w per extra : ℕ} (s : Span i l h w) → Relative i per extra
    → per * s.b ≤ (per + 1) * s.a + per * extra
relative_span s r = relative_ends s.a s.b s.is r

pub relative_point : (n per : ℕ) → Relative (point (pos n)) per 0
relative_point n per = record { a = n; b = n; is = point_natural n; near = omega arith }

-- a number of at least per · extra, added, leaves no extra
pub relative_sum : {i : Interval} {per extra : ℕ} (n : ℕ) → per * extra ≤ n → Relative i per extra
    → Relative (sum_of (point (pos n)) i) per 0
relative_sum {per = per} {extra} n h r =
    record { a = n + r.a; b = n + r.b; is = rw (r.is, point_natural n) (natural_sum n n r.a r.b); near = omega (arith, r.near) }

-- a width added
pub relative_add : {i j : Interval} {l h w per extra : ℕ} → Span i l h w → Relative j per extra → Relative (sum_of i j) per (w + extra)
relative_add {per = per} s r =
    record {
      a = s.a + r.a;
      b = s.b + r.b;
      is = rw (s.is, r.is) (natural_sum s.a s.b r.a r.b);
      near = omega (arith, mul-le-mul_left per s.near, r.near);
    }

-- times k, over den, rounded outward
rounded : (per a b k den A B : ℕ) → per * b ≤ (per + 1) * a → B * den < b * k + den → a * k < A * den + den
    → 0 < den → per * B ≤ (per + 1) * A + per * 2
rounded per a b k den A B h u l p =
    le_of_suc-le-suc
    (lt_of_mul-lt-mul_right den (omega (arith, mul-le-mul_right k h, mul-le-mul_left per u, mul-le-mul_left (per + 1) l)))

pub relative_product : {i : Interval} {l h w per : ℕ} (k : ℕ) {den : ℕ} → 0 < den → Span i l h w → Relative i per 0
    → Relative (product_of i (point (pos k)) den) per 2
relative_product {per = per} k {den} p s r =
    record {
      a = s.a * k / den;
      b = ceil_div (s.b * k) den;
      is = rw (s.is, point_natural k) (natural_product s.order (omega arith) p);
      near =
          rounded per s.a s.b k den (s.a * k / den) (ceil_div (s.b * k) den) (omega (arith, relative_span s r))
          (ceil_div_below (s.b * k) p) (floor_div_above (s.a * k) p) p;
    }

-- one number over d and over d', at most 1 apart and from `per` up
apart : (per n d d' L U : ℕ) → d' ≤ d + 1 → per ≤ d → U * d < n + d → n < L * d' + d' → per * U ≤ (per + 1) * L + per * 2
apart per n d d' L U g h u l = go (dec_le (L + 2) U)
  where
    go : Dec (L + 2 ≤ U) → per * U ≤ (per + 1) * L + per * 2
    go (yes p) =
        let j = U - (L + 2) in
        let e : U ≡ L + 2 + j = omega arith in
        omega (arith, mul-le-mul_left j h, ap (λ t. t * d) e, ap (λ t. per * t) e, mul-le-mul_left L g)
    go (no p) = let m : U ≤ L + 1 = omega arith in omega (arith, mul-le-mul_left per m)

pub relative_quotient : {j : Interval} {l h : ℕ} (n k : ℕ) {per : ℕ} → 0 < l → per ≤ l → Span j l h 1
    → Relative (quotient_of (point (pos n)) j k) per 2
relative_quotient n k {per} p q s =
    let c : 0 < s.a = le_trans p s.from in
    record {
      a = n * k / s.b;
      b = ceil_div (n * k) s.a;
      is = rw (s.is, point_natural n) (natural_quotient n n k c s.order);
      near =
          apart per (n * k) s.a s.b (n * k / s.b) (ceil_div (n * k) s.a) s.near (le_trans q s.from)
          (ceil_div_below (n * k) c) (floor_div_above (n * k) (le_trans c s.order));
    }

-- ---- widths of at most 1/p and 1/q, one over the other: (1 + 1/p)(1 + 1/q) is at most 1 + 1/r

both : (p q r a b c d : ℕ) → 0 < p * q → (p + 1) * (q + 1) * r ≤ p * q * (r + 1) → p * b ≤ (p + 1) * a → q * d ≤ (q + 1) * c
    → r * (b * d) ≤ (r + 1) * (a * c)
both p q r a b c d z t h k =
    le_of_mul-le-mul_right {k = p * q} (omega (arith, mul-le-mul_left r (mul-le-mul h k), mul-le-mul_right (a * c) t)) z

divided : (r a b c d k L U : ℕ) → 0 < c → r * (b * d) ≤ (r + 1) * (a * c) → U * c < b * k + c → a * k < L * d + d
    → r * U ≤ (r + 1) * L + r * 2
divided r a b c d k L U p h u l =
    le_of_suc-le-suc
    (lt_of_mul-lt-mul_right (c * d) (omega (arith, mul-le-mul_right k h, mul-le-mul_left (r * d) u, mul-le-mul_left ((r + 1) * c) l)))

pub relative_divided : {i j : Interval} {l h w l' h' w' : ℕ} (k p q r : ℕ)
    → Kept ((1 ≼ l') ∷ (p * w ≼ l) ∷ (q * w' ≼ l') ∷ (1 ≼ p * q) ∷ ((p + 1) * (q + 1) * r ≼ p * q * (r + 1)) ∷ [])
    → Span i l h w → Span j l' h' w' → Relative (quotient_of i j k) r 2
relative_divided k p q r t s u =
    let c : 0 < u.a = le_trans (t.at 0) u.from in
    record {
      a = s.a * k / u.b;
      b = ceil_div (s.b * k) u.a;
      is = rw (s.is, u.is) (natural_quotient s.a s.b k c u.order);
      near =
          divided r s.a s.b u.a u.b k _ _ c
          (both p q r s.a s.b u.a u.b (t.at 3) (t.at 4) (omega (arith, t.at 1, mul-le-mul_left p s.near, s.from))
          (omega (arith, t.at 2, mul-le-mul_left q u.near, u.from)))
          (ceil_div_below (s.b * k) c) (floor_div_above (s.a * k) (le_trans c u.order));
    }
