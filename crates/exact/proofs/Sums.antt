-- Sums and differences of fractions: their laws, and how they keep the order.
use Prim.Native.Nat.{ℕ, suc, ◌*◌, ◌≤◌, ◌<◌}
use native.Mathlib.{Omega.{arith}, Nat.{mul-le-mul_right, mul-lt-mul_of_pos_right, le_of_mul-le-mul_right, lt_of_mul-lt-mul_right, mul-pos}}
use Rattle.exact.specs.Fraction.{Fraction, ◌≤f◌, ◌<f◌, ◌≈f◌, whole, ◌+f◌, neg, ◌−f◌}
use Rattle.exact.proofs.Order.{refl≤, trans≤}

pub add_comm : (a b : Fraction) → a +f b ≈f b +f a
unfolding ◌+f◌
add_comm a b = omega arith

pub add_assoc : (a b c : Fraction) → (a +f b) +f c ≈f a +f (b +f c)
unfolding ◌+f◌
add_assoc a b c = omega arith

pub add-zero : (a : Fraction) → a +f whole 0 ≈f a
unfolding ◌+f◌ whole
add-zero a = omega arith

pub neg_neg : (a : Fraction) → neg (neg a) ≈f a
unfolding neg
neg_neg a = omega arith

-- (1 − a) + a
pub complement : (a : Fraction) → (whole 1 −f a) +f a ≈f whole 1
unfolding ◌−f◌ ◌+f◌ whole neg
complement a = omega arith

pub whole_suc : (n : ℕ) → whole (suc n) ≈f whole n +f whole 1
unfolding whole ◌+f◌
whole_suc n = omega arith

-- ---- the order

pub add≤ : {a b : Fraction} (c : Fraction) → a ≤f b → a +f c ≤f b +f c
unfolding ◌+f◌
add≤ {a} {b} c h = omega (arith, mul-le-mul_right (c.den * c.den) h.le)

pub cancel≤ : {a b : Fraction} (c : Fraction) → a +f c ≤f b +f c → a ≤f b
unfolding ◌+f◌
cancel≤ {a} {b} c h = record { le = le_of_mul-le-mul_right (omega (arith, h.le)) (mul-pos c.positive c.positive) }

pub mono+ : {a b c d : Fraction} → a ≤f b → c ≤f d → a +f c ≤f b +f d
mono+ {a} {b} {c} {d} h k = trans≤ (add≤ c h) (trans≤ (add_comm b c).to (trans≤ (add≤ b k) (add_comm d b).to))

pub cong+ : {a b c d : Fraction} → a ≈f b → c ≈f d → a +f c ≈f b +f d
cong+ h k = record { to = mono+ h.to k.to; fro = mono+ h.fro k.fro }

pub neg≤ : {a b : Fraction} → a ≤f b → neg b ≤f neg a
unfolding neg
neg≤ h = omega arith

pub mono− : {a b c d : Fraction} → a ≤f b → d ≤f c → a −f c ≤f b −f d
unfolding ◌−f◌
mono− h k = mono+ h (neg≤ k)

pub cong− : {a b c d : Fraction} → a ≈f b → c ≈f d → a −f c ≈f b −f d
cong− h k = record { to = mono− h.to k.fro; fro = mono− h.fro k.to }

-- from a + c ≤ b + d
pub cancel+ : {a b c d : Fraction} → a +f c ≤f b +f d → d ≤f c → a ≤f b
cancel+ {a} {b} {c} {d} h k = cancel≤ c (trans≤ h (mono+ (refl≤ b) k))

-- ---- signs

-- a sum with something not below 0, and a difference with it
pub le+ : {a b : Fraction} → whole 0 ≤f b → a ≤f a +f b
le+ {a} {b} h = trans≤ (add-zero a).fro (mono+ (refl≤ a) h)

pub minus≤ : (a : Fraction) {b : Fraction} → whole 0 ≤f b → a −f b ≤f a
unfolding ◌−f◌ ◌+f◌ neg whole
minus≤ a {b} k =
    let l : b.minus ≤ b.plus = omega arith in
    omega (arith, mul-le-mul_right (a.den * a.den) l)

pub sub_pos : {a b : Fraction} → a <f b → whole 0 <f b −f a
unfolding ◌−f◌ ◌+f◌ neg whole
sub_pos h = omega arith

pub sub_nonneg : {a b : Fraction} → a ≤f b → whole 0 ≤f b −f a
unfolding ◌−f◌ ◌+f◌ neg whole
sub_nonneg h = omega arith

pub lt_of_sum : {a b c : Fraction} → a +f b ≤f c → whole 0 <f b → a <f c
unfolding ◌+f◌ whole
lt_of_sum {a} {b} {c} h k =
    let l : b.minus < b.plus = omega arith in
    record { lt = lt_of_mul-lt-mul_right b.den (omega (arith, h.le, mul-lt-mul_of_pos_right l (mul-pos a.positive c.positive))) }

pub neg_nonpos : {a b : Fraction} → whole 0 ≤f a → whole 0 ≤f b → neg a ≤f b
unfolding neg whole
neg_nonpos {a} {b} h k = omega (arith, mul-le-mul_right b.den h.le, mul-le-mul_right a.den k.le)
