-- How far one fraction is above another, through each operation.
use mathlib.Core.Logic.{◌⊎◌, inl, inr}
use native.Mathlib.{Omega.{arith}, Nat.{mul-le-mul_right}}
use Rattle.exact.specs.Fraction.{Fraction, ◌≤f◌, ◌<f◌, ◌≈f◌, whole, ◌+f◌, neg, ◌−f◌, ◌·f◌, inv}
use Rattle.exact.proofs.{Order.{refl≤, trans≤, lt_of_lt_of_le, refl≈, sym≈, trans≈, total}, Sums.{mono+, add_assoc, le+}}
use Rattle.exact.proofs.Products.{mul≤, mul_left≤, mono·, mul_nonneg, mul_comm, mul_assoc, one-mul, mul_add, add_mul, cong·}
use Rattle.exact.proofs.{Quotients.{inv≤, inv_nonneg, mul_inv}, Convolution.{add_swap}}
use Rattle.numbers.specs.Number.{Near}

pub exchanged : (a b c : Fraction) → a ·f b ·f c ≈f a ·f c ·f b
exchanged a b c = trans≈ (mul_assoc a b c) (trans≈ (cong· (refl≈ a) (mul_comm b c)) (sym≈ (mul_assoc a c b)))

-- a whole number not below a fraction
pub whole_above : (a : Fraction) → a ≤f whole a.plus
unfolding whole
whole_above a = omega (arith, mul-le-mul_right a.plus a.positive)

pub near_below : {w a b : Fraction} → whole 0 ≤f w → b ≤f a → Near w a b
near_below n h = record { near = trans≤ h (le+ n) }

pub near_more : {v w a b : Fraction} → Near v a b → v ≤f w → Near w a b
near_more {a = a} h l = record { near = trans≤ h.near (mono+ (refl≤ a) l) }

-- between nearer ends
pub near_between : {w a b a' b' : Fraction} → Near w a b → a ≤f a' → b' ≤f b → Near w a' b'
near_between {w} h l k = record { near = trans≤ k (trans≤ h.near (mono+ l (refl≤ w))) }

pub near_trans : {v w a b c : Fraction} → Near v a b → Near w b c → Near (v +f w) a c
near_trans {v} {w} {a} h k = record { near = trans≤ k.near (trans≤ (mono+ h.near (refl≤ w)) (add_assoc a v w).to) }

pub near_sum : {v w a b c d : Fraction} → Near v a b → Near w c d → Near (v +f w) (a +f c) (b +f d)
near_sum {v} {w} {a} {c = c} h k = record { near = trans≤ (mono+ h.near k.near) (add_swap a v c w).to }

pub near_plus : {w a b : Fraction} (c : Fraction) → Near w a b → Near w (c +f a) (c +f b)
near_plus {w} {a} c h = record { near = trans≤ (mono+ (refl≤ c) h.near) (add_assoc c a w).fro }

pub near_neg : {w a b : Fraction} → Near w a b → Near w (neg b) (neg a)
unfolding neg ◌+f◌
near_neg h = omega arith

pub near_difference : {v w a b c d : Fraction} → Near v a b → Near w c d → Near (v +f w) (a −f d) (b −f c)
unfolding ◌−f◌
near_difference h k = near_sum h (near_neg k)

pub near_times : {w a b : Fraction} (c : Fraction) → whole 0 ≤f c → Near w a b → Near (c ·f w) (c ·f a) (c ·f b)
near_times {w} {a} c n h = record { near = trans≤ (mul_left≤ n h.near) (mul_add c a w).to }

-- ---- products of any sign

-- a is at most M from 0
pub record Size (M a : Fraction) : Type 0 where
  pub high : a ≤f M
  pub low : neg a ≤f M

negated : (a b : Fraction) → a ·f b ≈f neg (neg a ·f b)
unfolding ◌·f◌ neg
negated a b = omega arith

neg_nonneg : {a : Fraction} → a ≤f whole 0 → whole 0 ≤f neg a
unfolding neg whole
neg_nonneg h = omega arith

-- each at most w above the other
pub record Close (w a b : Fraction) : Type 0 where
  pub to : Near w a b
  pub fro : Near w b a

factor_near : {w b b' M : Fraction} (a : Fraction) → whole 0 ≤f w → Close w b b' → Size M a → Near (M ·f w) (a ·f b) (a ·f b')
factor_near {w} {b} {b'} {M} a nw h s = go (total a (whole 0))
  where
    go : (a ≤f whole 0) ⊎ (whole 0 ≤f a) → Near (M ·f w) (a ·f b) (a ·f b')
    go (inl n) =
        near_between (near_more (near_neg (near_times (neg a) (neg_nonneg n) h.fro)) (mul≤ nw s.low))
        (negated a b).fro (negated a b').to
    go (inr n) = near_more (near_times a n h.to) (mul≤ nw s.high)

pub near_product : {v w a a' b b' M N : Fraction} → whole 0 ≤f v → whole 0 ≤f w → Close v a a' → Close w b b' → Size M a → Size N b'
    → Near (M ·f w +f N ·f v) (a ·f b) (a' ·f b')
near_product {a = a} {a'} {b} {b'} nv nw h k s t =
    near_trans (factor_near a nw k s) (near_between (factor_near b' nv h t) (mul_comm b' a).to (mul_comm a' b').to)

-- ---- the inverse

restored : {a b : Fraction} → whole 0 <f a → a ·f (inv a ·f b) ≈f b
restored {a} {b} p = trans≈ (sym≈ (mul_assoc a (inv a) b)) (trans≈ (cong· (mul_inv p) (refl≈ b)) (one-mul b))

-- of two fractions that are at least c
pub near_inverse : {w a b c : Fraction} → whole 0 <f c → c ≤f a → c ≤f b → whole 0 ≤f w → Near w a b
    → Near (w ·f (inv c ·f inv c)) (inv b) (inv a)
near_inverse {w} {a} {b} {c} pc la lb nw h =
    let g = inv a ·f inv b in
    let ng = mul_nonneg (inv_nonneg a) (inv_nonneg b) in
    record {
      near =
          trans≤ (trans≤ (restored (lt_of_lt_of_le pc lb)).fro (cong· (refl≈ b) (mul_comm (inv b) (inv a))).to)
          (trans≤ (mul≤ ng h.near)
          (trans≤ (add_mul a w g).to
          (mono+ (restored (lt_of_lt_of_le pc la)).to (mul_left≤ nw (mono· (inv_nonneg b) (inv_nonneg c) (inv≤ pc la) (inv≤ pc lb))))));
    }
