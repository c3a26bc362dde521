-- Intervals of naturals of which one lies below another, lower end by lower end and upper end by upper end: what the operations keep.
use Prim.Native.Nat.{ℕ, ◌*◌, ◌/◌, ◌≤◌, ◌<◌}
use mathlib.Core.Path.{◌≡◌, sym, ap, ◌∙◌}
use native.Mathlib.{Omega.{arith}, Nat.{le_refl, le_trans, mul-le-mul, mul-le-mul_left, mul-le-mul_right}}
use lib.{IntN.{pos}, Signed.{◌≤ℤ◌}}
use Rattle.whole.{specs.Whole.{ceil_div}, proofs.Choice.{pos≤}}
use Rattle.whole.proofs.Rounding.{floor_div_below, floor_div_by, floor_div_falls, ceil_div_above, ceil_div_by, ceil_div_falls}
use Rattle.interval.specs.{declared.Interval.{Interval}, Operations.{natural, outward_of, scaled_of, product_of, quotient_of}}
use Rattle.interval.specs.Span.{Span}
use Rattle.interval.proofs.{Natural.{natural_scaled, natural_outward, natural_product, natural_quotient}, Span.{floor≤ceil}}

-- i lies below j
pub record Below (i j : Interval) : Type 0 where
  pub a : ℕ
  pub b : ℕ
  pub c : ℕ
  pub d : ℕ
  pub left : i ≡ natural a b
  pub right : j ≡ natural c d
  pub left_order : a ≤ b
  pub right_order : c ≤ d
  pub lowers : a ≤ c
  pub uppers : b ≤ d

pub below_upper : {i j : Interval} → Below i j → i.upper ≤ℤ j.upper
unfolding natural
below_upper h = rw (h.left, h.right) (pos≤ h.uppers)

pub below_lower : {i j : Interval} → Below i j → i.lower ≤ℤ j.lower
unfolding natural
below_lower h = rw (h.left, h.right) (pos≤ h.lowers)

-- its lower end is that of its span
starts : {i j : Interval} {l h w : ℕ} → Span i l h w → (m : Below i j) → l ≤ m.a
unfolding natural
starts s m =
    let same : pos s.a ≡ pos m.a = ap (λ i. i.lower) (sym s.is ∙ m.left) in
    let e : s.a ≡ m.a = cc in
    omega (arith, s.from)

below_itself : {i : Interval} {l h w : ℕ} → Span i l h w → Below i i
below_itself s =
    record {
      a = s.a;
      b = s.b;
      c = s.a;
      d = s.b;
      left = s.is;
      right = s.is;
      left_order = s.order;
      right_order = s.order;
      lowers = le_refl _;
      uppers = le_refl _;
    }

-- ---- rounding

floor_rises : (a b : ℕ) {d : ℕ} → 0 < d → a ≤ b → a / d ≤ b / d
floor_rises a b {d} p h = floor_div_by b p (le_trans (floor_div_below a d) h)

ceil_rises : (a b : ℕ) {d : ℕ} → 0 < d → a ≤ b → ceil_div a d ≤ ceil_div b d
ceil_rises a b p h = ceil_div_by a p (le_trans h (ceil_div_above b p))

-- ---- operations

-- more of one pair
pub below_more : {i : Interval} {l h w m n : ℕ} → Span i l h w → m ≤ n → Below (scaled_of i m) (scaled_of i n)
below_more {m = m} {n} s h =
    record {
      a = s.a * m;
      b = s.b * m;
      c = s.a * n;
      d = s.b * n;
      left = rw s.is (natural_scaled s.a s.b m);
      right = rw s.is (natural_scaled s.a s.b n);
      left_order = mul-le-mul_right m s.order;
      right_order = mul-le-mul_right n s.order;
      lowers = mul-le-mul_left s.a h;
      uppers = mul-le-mul_left s.b h;
    }

module _ {i j : Interval} (h : Below i j) where
  pub below_scaled : (k : ℕ) → Below (scaled_of i k) (scaled_of j k)
  below_scaled k =
      record {
        a = h.a * k;
        b = h.b * k;
        c = h.c * k;
        d = h.d * k;
        left = rw h.left (natural_scaled h.a h.b k);
        right = rw h.right (natural_scaled h.c h.d k);
        left_order = mul-le-mul_right k h.left_order;
        right_order = mul-le-mul_right k h.right_order;
        lowers = mul-le-mul_right k h.lowers;
        uppers = mul-le-mul_right k h.uppers;
      }

  pub below_outward : {n : ℕ} → 0 < n → Below (outward_of i n) (outward_of j n)
  below_outward {n} p =
      record {
        a = h.a / n;
        b = ceil_div h.b n;
        c = h.c / n;
        d = ceil_div h.d n;
        left = rw h.left (natural_outward h.a h.b p);
        right = rw h.right (natural_outward h.c h.d p);
        left_order = floor≤ceil h.a h.b n p h.left_order;
        right_order = floor≤ceil h.c h.d n p h.right_order;
        lowers = floor_rises h.a h.c p h.lowers;
        uppers = ceil_rises h.b h.d p h.uppers;
      }

  -- k times each
  pub below_product : {k : Interval} {l m w n : ℕ} → Span k l m w → 0 < n → Below (product_of k i n) (product_of k j n)
  below_product {n = n} s p =
      record {
        a = s.a * h.a / n;
        b = ceil_div (s.b * h.b) n;
        c = s.a * h.c / n;
        d = ceil_div (s.b * h.d) n;
        left = rw (s.is, h.left) (natural_product s.order h.left_order p);
        right = rw (s.is, h.right) (natural_product s.order h.right_order p);
        left_order = floor≤ceil _ _ n p (mul-le-mul s.order h.left_order);
        right_order = floor≤ceil _ _ n p (mul-le-mul s.order h.right_order);
        lowers = floor_rises _ _ p (mul-le-mul_left s.a h.lowers);
        uppers = ceil_rises _ _ p (mul-le-mul_left s.b h.uppers);
      }

  -- each times k
  pub below_times : {k : Interval} {l m w n : ℕ} → Span k l m w → 0 < n → Below (product_of i k n) (product_of j k n)
  below_times {n = n} s p =
      record {
        a = h.a * s.a / n;
        b = ceil_div (h.b * s.b) n;
        c = h.c * s.a / n;
        d = ceil_div (h.d * s.b) n;
        left = rw (s.is, h.left) (natural_product h.left_order s.order p);
        right = rw (s.is, h.right) (natural_product h.right_order s.order p);
        left_order = floor≤ceil _ _ n p (mul-le-mul h.left_order s.order);
        right_order = floor≤ceil _ _ n p (mul-le-mul h.right_order s.order);
        lowers = floor_rises _ _ p (mul-le-mul_right s.a h.lowers);
        uppers = ceil_rises _ _ p (mul-le-mul_right s.b h.uppers);
      }

  -- each over a divisor, the upper one over the lesser
  pub below_divided : {k k' : Interval} {l u w : ℕ} (n : ℕ) → 0 < l → Span k l u w → Below k k'
      → Below (quotient_of i k' n) (quotient_of j k n)
  below_divided n p s m =
      let q : 0 < m.a = le_trans p (starts s m) in
      let q' : 0 < m.c = le_trans q m.lowers in
      let r : 0 < m.b = le_trans q m.left_order in
      record {
        a = h.a * n / m.d;
        b = ceil_div (h.b * n) m.c;
        c = h.c * n / m.b;
        d = ceil_div (h.d * n) m.a;
        left = rw (m.right, h.left) (natural_quotient h.a h.b n q' m.right_order);
        right = rw (m.left, h.right) (natural_quotient h.c h.d n q m.left_order);
        left_order = quotient_order (h.a * n) (h.b * n) q' m.right_order (mul-le-mul_right n h.left_order);
        right_order = quotient_order (h.c * n) (h.d * n) q m.left_order (mul-le-mul_right n h.right_order);
        lowers =
            le_trans (floor_rises _ _ (le_trans r m.uppers) (mul-le-mul_right n h.lowers)) (floor_div_falls (h.c * n) r m.uppers);
        uppers = le_trans (ceil_rises _ _ q' (mul-le-mul_right n h.uppers)) (ceil_div_falls (h.d * n) q m.lowers);
      }
    where
      quotient_order : (x y : ℕ) {e f : ℕ} → 0 < e → e ≤ f → x ≤ y → x / f ≤ ceil_div y e
      quotient_order x y {e} {f} p l k = le_trans (floor_div_falls x p l) (floor≤ceil x y e p k)

  -- each over k
  pub below_quotient : {k : Interval} {l m w : ℕ} (n : ℕ) → 0 < l → Span k l m w → Below (quotient_of i k n) (quotient_of j k n)
  below_quotient n p s = below_divided n p s (below_itself s)
