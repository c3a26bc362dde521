-- Quotients brought to one divisor.
use Rattle.exact.specs.Fraction.{Fraction, ◌<f◌, ◌≈f◌, whole, ◌+f◌, neg, ◌−f◌, ◌·f◌, inv, ◌÷f◌}
use Rattle.exact.proofs.{Order.{lt_of_lt_of_le, refl≈, sym≈, trans≈}, Sums.{cong+, neg≤}}
use Rattle.exact.proofs.{Products.{mul_comm, mul_assoc, mul_neg, add_mul, cong·, mul-pos}, Quotients.{inv≤, split_inv}}

pub inv_cong : {a b : Fraction} → whole 0 <f a → a ≈f b → inv a ≈f inv b
inv_cong p e = record { to = inv≤ (lt_of_lt_of_le p e.to) e.fro; fro = inv≤ p e.to }

pub cong÷ : {a b c d : Fraction} → whole 0 <f c → a ≈f b → c ≈f d → a ÷f c ≈f b ÷f d
unfolding ◌÷f◌
cong÷ p e f = cong· e (inv_cong p f)

neg_cong : {a b : Fraction} → a ≈f b → neg a ≈f neg b
neg_cong e = record { to = neg≤ e.fro; fro = neg≤ e.to }

-- a / b is a c / e, where e is b c
pub expand : (a : Fraction) {b c e : Fraction} → whole 0 <f b → whole 0 <f c → b ·f c ≈f e → a ÷f b ≈f (a ·f c) ÷f e
unfolding ◌÷f◌
expand a {b} {c} {e} pb pc h =
    sym≈
    (trans≈ (cong· (refl≈ (a ·f c)) (inv_cong (lt_of_lt_of_le (mul-pos pb pc) h.to) (sym≈ h)))
    (trans≈ (mul_assoc a c (inv (b ·f c))) (cong· (refl≈ a) (split_inv pb pc))))

pub add_over : (a b c : Fraction) → a ÷f c +f b ÷f c ≈f (a +f b) ÷f c
unfolding ◌÷f◌
add_over a b c = sym≈ (add_mul a b (inv c))

neg_mul : (a b : Fraction) → neg a ·f b ≈f neg (a ·f b)
neg_mul a b = trans≈ (mul_comm (neg a) b) (trans≈ (mul_neg b a) (neg_cong (mul_comm b a)))

pub sub_over : (a b c : Fraction) → a ÷f c −f b ÷f c ≈f (a −f b) ÷f c
unfolding ◌÷f◌ ◌−f◌
sub_over a b c = trans≈ (cong+ (refl≈ _) (sym≈ (neg_mul b (inv c)))) (sym≈ (add_mul a (neg b) (inv c)))
