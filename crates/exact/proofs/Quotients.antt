-- Quotients of fractions by positive ones: the inverse, and how quotients keep the order.
use Prim.Native.Nat.{ℕ, ◌+◌, ◌-◌, ◌*◌, ◌≤◌, max}
use mathlib.Core.Path.{◌≡◌, ap}
use native.Mathlib.Omega.{arith}
use Rattle.exact.specs.Fraction.{Fraction, ◌≤f◌, ◌<f◌, ◌≈f◌, whole, ◌·f◌, inv, ◌÷f◌}
use Rattle.exact.proofs.Order.{trans≤, lt_of_lt_of_le, le_of_lt, refl≈, sym≈, trans≈, whole_pos}
use Rattle.exact.proofs.Products.{mul_comm, mul_assoc, mul_one, one-mul, mul≤, mono·, cong·, mul-pos}

gap : (a : Fraction) → whole 0 <f a → (inv a).den + a.minus ≡ a.plus
unfolding whole inv
gap a h = omega arith

-- the divisor of one over a positive whole number
pub clamped : {n : ℕ} → 1 ≤ n → max 1 (n - 0) ≡ n
clamped h = omega arith

pub inv_pos : (a : Fraction) → whole 0 <f inv a
unfolding whole inv
inv_pos a = omega (arith, a.positive)

pub inv_nonneg : (a : Fraction) → whole 0 ≤f inv a
inv_nonneg a = le_of_lt (inv_pos a)

pub inv≤ : {a b : Fraction} → whole 0 <f a → a ≤f b → inv b ≤f inv a
unfolding inv
inv≤ {a} {b} k h = record { le = core (inv a).den (inv b).den (gap a k) (gap b (lt_of_lt_of_le k h)) }
  where
    core : (x y : ℕ) → x + a.minus ≡ a.plus → y + b.minus ≡ b.plus → b.den * x + 0 * y ≤ a.den * y + 0 * x
    core x y e f = omega (arith, h.le, ap (λ t. t * b.den) e, ap (λ t. t * a.den) f)

pub mul_inv : {a : Fraction} → whole 0 <f a → a ·f inv a ≈f whole 1
unfolding inv ◌·f◌ whole
mul_inv {a} k =
    let same = core (inv a).den (gap a k) in
    record { to = record { le = omega (arith, same) }; fro = record { le = omega (arith, same) } }
  where
    core : (x : ℕ) → x + a.minus ≡ a.plus → a.plus * a.den ≡ a.den * x + a.minus * a.den
    core x e = omega (arith, ap (λ t. t * a.den) e)

-- the only factor that makes a positive fraction 1 is its inverse
pub inv_unique : {a b : Fraction} → whole 0 <f a → a ·f b ≈f whole 1 → b ≈f inv a
inv_unique {a} {b} h e =
    trans≈ (sym≈ (one-mul b))
    (trans≈ (cong· (sym≈ (trans≈ (mul_comm (inv a) a) (mul_inv h))) (refl≈ b))
    (trans≈ (mul_assoc (inv a) a b) (trans≈ (cong· (refl≈ (inv a)) e) (mul_one (inv a)))))

-- 1 / n is d / (n d)
pub split_inv : {n d : Fraction} → whole 0 <f n → whole 0 <f d → d ·f inv (n ·f d) ≈f inv n
split_inv {n} {d} hn hd = inv_unique hn (trans≈ (sym≈ (mul_assoc n d (inv (n ·f d)))) (mul_inv (mul-pos hn hd)))

-- the inverse of what is at most 1 is at least 1
pub inverse_low : {q : Fraction} → whole 0 <f q → q ≤f whole 1 → whole 1 ≤f inv q
inverse_low h l = trans≤ inverse_one (inv≤ h l)
  where
    inverse_one : whole 1 ≤f inv (whole 1)
    inverse_one = trans≤ (mul_inv (whole_pos (omega arith))).fro (one-mul (inv (whole 1))).to

pub div≤ : {a b : Fraction} (c : Fraction) → a ≤f b → a ÷f c ≤f b ÷f c
unfolding ◌÷f◌
div≤ c h = mul≤ (inv_nonneg c) h

pub mono÷ : {a b c d : Fraction} → whole 0 ≤f b → whole 0 <f d → a ≤f b → d ≤f c → a ÷f c ≤f b ÷f d
unfolding ◌÷f◌
mono÷ {c = c} nb pd h k = mono· (inv_nonneg c) nb h (inv≤ pd k)
