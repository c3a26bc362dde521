-- Powers of two near fractions are near.
use Prim.Native.Nat.{ℕ, zero, suc}
use Rattle.exact.{specs.Fraction.{Fraction, ◌≤f◌, ◌≈f◌, whole, ◌·f◌, powf}, proofs.Order.{refl≤, trans≤, refl≈, trans≈, nonneg}}
use Rattle.exact.proofs.Sums.{mono+, add_comm}
use Rattle.exact.proofs.Products.{mul≤, mul_left≤, mul_nonneg, mul_comm, mul_assoc, mul_one, one-mul, cong·, suc_times}
use Rattle.exact.proofs.Series.{pow_nonneg, pow≤}
use Rattle.numbers.specs.Number.{Near}
use Rattle.numbers.proofs.Near.{exchanged, near_below, near_more, near_between, near_trans, near_times}

-- b (n (p w)) is n ((p b) w)
inward : (b n p w : Fraction) → b ·f (n ·f (p ·f w)) ≈f n ·f ((p ·f b) ·f w)
inward b n p w = trans≈ (mul_comm b _) (trans≈ (mul_assoc n (p ·f w) b) (cong· (refl≈ n) (exchanged p w b)))

-- b^(n+1) − a^(n+1) ≤ (n+1) b^n (b − a)
pub power_near : {w a b : Fraction} → whole 0 ≤f a → a ≤f b → whole 0 ≤f w → Near w a b → (n : ℕ)
    → Near (whole (suc n) ·f (powf b n ·f w)) (powf a (suc n)) (powf b (suc n))
unfolding powf
power_near {w} na l nw h zero = near_more (near_times (whole 1) (nonneg 1) h) (one-mul _).fro
power_near {w} {a} {b} na l nw h (suc n) =
    let A : Fraction = powf a (suc n) in
    let B : Fraction = powf b (suc n) in
    let nA : whole 0 ≤f A = pow_nonneg na (suc n) in
    near_more
    (near_trans (near_times A nA h)
    (near_between (near_times b (trans≤ na l) (power_near na l nw h n)) (mul_comm b A).to (mul_comm B b).to))
    (trans≤ (mono+ (mul≤ nw (pow≤ na l (suc n))) (inward b (whole (suc n)) (powf b n) w).to)
    (trans≤ (add_comm _ _).to (suc_times (suc n) (B ·f w)).fro))

-- by a bound on the greater
pub powers_near : {w a b S : Fraction} → whole 0 ≤f a → a ≤f b → b ≤f S → whole 1 ≤f S → whole 0 ≤f w → Near w a b → (n : ℕ)
    → Near (whole n ·f (powf S n ·f w)) (powf a n) (powf b n)
unfolding powf
powers_near {w} {S = S} na l m o nw h zero = near_below (mul_nonneg (nonneg 0) (mul_nonneg (nonneg 1) nw)) (refl≤ (whole 1))
powers_near {w} {b = b} {S = S} na l m o nw h (suc n) =
    let nS = trans≤ na (trans≤ l m) in
    let p : powf b n ≤f powf S n ·f S = trans≤ (pow≤ (trans≤ na l) m n) (trans≤ (mul_one _).fro (mul_left≤ (pow_nonneg nS n) o)) in
    near_more (power_near na l nw h n) (mul_left≤ (nonneg (suc n)) (mul≤ nw p))
