-- Products of fractions: their laws, and how they keep the order.
use Prim.Native.Nat.{ℕ, suc, ◌+◌, ◌*◌, ◌≤◌, ◌<◌}
use mathlib.Core.{Path.{◌≡◌, ap}, Logic.{◌⊎◌, inl, inr}}
use native.Mathlib.{Omega.{arith}, Nat.{mul-le-mul_right, mul-le-mul_left, mul-lt-mul_of_pos_right, mul-lt-mul_of_pos_left, le_dest}}
use Rattle.exact.specs.Fraction.{Fraction, ◌≤f◌, ◌<f◌, ◌≈f◌, whole, ◌+f◌, neg, ◌·f◌}
use Rattle.exact.proofs.{Order.{trans≤, refl≈, trans≈, total}, Sums.{cong+, whole_suc}}

pub mul_comm : (a b : Fraction) → a ·f b ≈f b ·f a
unfolding ◌·f◌
mul_comm a b = omega arith

pub mul_assoc : (a b c : Fraction) → (a ·f b) ·f c ≈f a ·f (b ·f c)
unfolding ◌·f◌
mul_assoc a b c = omega arith

pub mul_one : (a : Fraction) → a ·f whole 1 ≈f a
unfolding ◌·f◌ whole
mul_one a = omega arith

pub one-mul : (a : Fraction) → whole 1 ·f a ≈f a
one-mul a = trans≈ (mul_comm (whole 1) a) (mul_one a)

pub mul_zero : (a : Fraction) → a ·f whole 0 ≈f whole 0
unfolding ◌·f◌ whole
mul_zero a = omega arith

pub mul_neg : (a b : Fraction) → a ·f neg b ≈f neg (a ·f b)
unfolding ◌·f◌ neg
mul_neg a b = omega arith

pub whole_mul : (m n : ℕ) → whole (m * n) ≈f whole m ·f whole n
unfolding whole ◌·f◌
whole_mul m n = omega arith

-- b is a with all three numbers n times as large
multiple : (a b : Fraction) (n : ℕ) → b.plus ≡ a.plus * n → b.minus ≡ a.minus * n → b.den ≡ a.den * n → a ≈f b
multiple a b n e f g = omega (arith, ap (λ t. a.plus * t) g, ap (λ t. a.minus * t) g, ap (λ t. t * a.den) e, ap (λ t. t * a.den) f)

pub mul_add : (a b c : Fraction) → a ·f (b +f c) ≈f a ·f b +f a ·f c
unfolding ◌·f◌ ◌+f◌
mul_add a b c = multiple (a ·f (b +f c)) (a ·f b +f a ·f c) a.den (omega arith) (omega arith) (omega arith)

pub add_mul : (a b c : Fraction) → (a +f b) ·f c ≈f a ·f c +f b ·f c
add_mul a b c = trans≈ (mul_comm (a +f b) c) (trans≈ (mul_add c a b) (cong+ (mul_comm c a) (mul_comm c b)))

-- ---- the order

rearrange : {x y m p : ℕ} → x ≤ y → m ≤ p → x * p + y * m ≤ y * p + x * m
rearrange {x} {y} {m} {p} h l = go (le_dest h)
  where
    go : (k : ℕ) × (x + k ≡ y) → x * p + y * m ≤ y * p + x * m
    go e = omega (arith, mul-le-mul_left e.0 l, ap (λ t. t * m) e.1, ap (λ t. t * p) e.1)

rearrange< : {x y m p : ℕ} → x < y → m < p → x * p + y * m < y * p + x * m
rearrange< {x} {y} {m} {p} h l = go (le_dest h)
  where
    go : (k : ℕ) × (suc x + k ≡ y) → x * p + y * m < y * p + x * m
    go e =
        let s : suc e.0 * m < suc e.0 * p = mul-lt-mul_of_pos_left l (omega arith) in
        omega (arith, s, ap (λ t. t * m) e.1, ap (λ t. t * p) e.1)

-- by a factor that is not negative, and by one that is not positive
pub mul≤ : {a b c : Fraction} → whole 0 ≤f c → a ≤f b → a ·f c ≤f b ·f c
unfolding ◌·f◌ whole
mul≤ {a} {b} {c} k h =
    let l : c.minus ≤ c.plus = omega arith in
    omega (arith, mul-le-mul_right c.den (rearrange h.le l))

pub mul≥ : {a b c : Fraction} → c ≤f whole 0 → a ≤f b → b ·f c ≤f a ·f c
unfolding ◌·f◌ whole
mul≥ {a} {b} {c} k h =
    let l : c.plus ≤ c.minus = omega arith in
    omega (arith, mul-le-mul_right c.den (rearrange h.le l))

-- the factors exchanged
swapped≤ : (a b c : Fraction) → a ·f c ≤f b ·f c → c ·f a ≤f c ·f b
swapped≤ a b c h = trans≤ (mul_comm c a).to (trans≤ h (mul_comm b c).to)

pub mul_left≤ : {a b c : Fraction} → whole 0 ≤f c → a ≤f b → c ·f a ≤f c ·f b
mul_left≤ {a} {b} {c} k h = swapped≤ a b c (mul≤ k h)

pub mul_left≥ : {a b c : Fraction} → c ≤f whole 0 → a ≤f b → c ·f b ≤f c ·f a
mul_left≥ {a} {b} {c} k h = swapped≤ b a c (mul≥ k h)

pub mono· : {a b c d : Fraction} → whole 0 ≤f c → whole 0 ≤f b → a ≤f b → c ≤f d → a ·f c ≤f b ·f d
mono· nc nb h k = trans≤ (mul≤ nc h) (mul_left≤ nb k)

pub cong· : {a b c d : Fraction} → a ≈f b → c ≈f d → a ·f c ≈f b ·f d
cong· {a} {b} {c} {d} h k = trans≈ (left c h) (trans≈ (mul_comm b c) (trans≈ (left b k) (mul_comm d b)))
  where
    by : {x y z : Fraction} → x ≈f y → (z ≤f whole 0) ⊎ (whole 0 ≤f z) → x ·f z ≈f y ·f z
    by h (inl n) = record { to = mul≥ n h.fro; fro = mul≥ n h.to }
    by h (inr n) = record { to = mul≤ n h.to; fro = mul≤ n h.fro }

    left : {x y : Fraction} (z : Fraction) → x ≈f y → x ·f z ≈f y ·f z
    left z h = by h (total z (whole 0))

pub suc_times : (n : ℕ) (a : Fraction) → whole (suc n) ·f a ≈f whole n ·f a +f a
suc_times n a = trans≈ (cong· (whole_suc n) (refl≈ a)) (trans≈ (add_mul (whole n) (whole 1) a) (cong+ (refl≈ (whole n ·f a)) (one-mul a)))

-- ---- signs

pub mul_nonneg : {a b : Fraction} → whole 0 ≤f a → whole 0 ≤f b → whole 0 ≤f a ·f b
mul_nonneg {a} {b} h k = trans≤ (mul_zero a).fro (mul_left≤ h k)

pub mul-pos : {a b : Fraction} → whole 0 <f a → whole 0 <f b → whole 0 <f a ·f b
unfolding ◌·f◌ whole
mul-pos {a} {b} h k =
    let l : a.minus < a.plus = omega arith in
    let r : b.minus < b.plus = omega arith in
    omega (arith, rearrange< l r)

pub mul< : {a b c : Fraction} → whole 0 <f a → b <f c → a ·f b <f a ·f c
unfolding ◌·f◌ whole
mul< {a} {b} {c} h k =
    let l : a.minus < a.plus = omega arith in
    omega (arith, mul-lt-mul_of_pos_right (rearrange< k.lt l) a.positive)
