-- The logarithm's series at one argument z, 0 ≤ z and z² < 1: k terms are below j terms with their tail, at any k and j; and both
-- grow with z.
use Prim.Native.Nat.{ℕ, zero, suc, ◌+◌, ◌*◌, ◌<◌}
use mathlib.Core.Path.{◌≡◌}
use native.Mathlib.Omega.{arith}
use Rattle.exact.specs.Fraction.{Fraction, ◌≤f◌, ◌<f◌, ◌≈f◌, whole, ◌+f◌, ◌−f◌, ◌·f◌, inv, ◌÷f◌, powf}
use Rattle.exact.specs.Logarithm.{term, terms, tail}
use Rattle.exact.proofs.Order.{refl≤, trans≤, le_of_lt, refl≈, sym≈, trans≈, whole≤, whole_pos, nonneg}
use Rattle.exact.proofs.Sums.{mono+, mono−, le+, add_assoc, complement}
use Rattle.exact.proofs.Products.{mul≤, mul_left≤, mono·, mul_nonneg, mul-pos, mul_assoc, mul_add, add_mul, one-mul, cong·}
use Rattle.exact.proofs.{Quotients.{inv≤, inv_nonneg, split_inv, div≤, mono÷}, Sequences.{crossing}}

pub pow_nonneg : {z : Fraction} → whole 0 ≤f z → (n : ℕ) → whole 0 ≤f powf z n
unfolding powf
pow_nonneg h zero = nonneg 1
pow_nonneg h (suc n) = mul_nonneg (pow_nonneg h n) h

pub pow≤ : {z w : Fraction} → whole 0 ≤f z → z ≤f w → (n : ℕ) → powf z n ≤f powf w n
unfolding powf
pow≤ h l zero = refl≤ (whole 1)
pow≤ {z} {w} h l (suc n) = mono· h (pow_nonneg (trans≤ h l) n) (pow≤ h l n) l

pub pow_odd : (z : Fraction) (k : ℕ) → powf z (2 * suc k + 1) ≈f powf z (2 * k + 1) ·f (z ·f z)
unfolding powf
pow_odd z k = rw e (mul_assoc (powf z (2 * k + 1)) z z)
  where
    e : 2 * suc k + 1 ≡ suc (suc (2 * k + 1))
    e = omega arith

pub odd_pos : (k : ℕ) → 0 < 2 * k + 1
odd_pos k = omega arith

-- ---- terms

module _ {z : Fraction} (nz : whole 0 ≤f z) where
  twice_nonneg : (k : ℕ) → whole 0 ≤f whole 2 ·f powf z (2 * k + 1)
  twice_nonneg k = mul_nonneg (nonneg 2) (pow_nonneg nz (2 * k + 1))

  pub term_nonneg : (k : ℕ) → whole 0 ≤f term z k
  unfolding term ◌÷f◌
  term_nonneg k = mul_nonneg (twice_nonneg k) (inv_nonneg (whole (2 * k + 1)))

  pub terms_rise : (k : ℕ) → terms z k ≤f terms z (suc k)
  unfolding terms
  terms_rise k = le+ (term_nonneg k)

  pub terms_nonneg : (k : ℕ) → whole 0 ≤f terms z k
  unfolding terms
  terms_nonneg zero = refl≤ (whole 0)
  terms_nonneg (suc k) = trans≤ (terms_nonneg k) (terms_rise k)

  pub terms≤ : {w : Fraction} → z ≤f w → (k : ℕ) → terms z k ≤f terms w k
  unfolding terms term
  terms≤ l zero = refl≤ (whole 0)
  terms≤ l (suc k) = mono+ (terms≤ l k) (div≤ (whole (2 * k + 1)) (mul_left≤ (nonneg 2) (pow≤ nz l (2 * k + 1))))

  -- ---- the tail

  pub tail_nonneg : (k : ℕ) → whole 0 ≤f tail z k
  unfolding tail ◌÷f◌
  tail_nonneg k = mul_nonneg (twice_nonneg k) (inv_nonneg _)

  pub tail≤ : {w : Fraction} → z ≤f w → whole 0 <f whole 1 −f w ·f w → (k : ℕ) → tail z k ≤f tail w k
  unfolding tail
  tail≤ {w} l d k =
      mono÷ (mul_nonneg (nonneg 2) (pow_nonneg (trans≤ nz l) (2 * k + 1))) (mul-pos (whole_pos (omega arith)) d)
      (mul_left≤ (nonneg 2) (pow≤ nz l (2 * k + 1)))
      (mul_left≤ (nonneg _) (mono− (refl≤ (whole 1)) (mono· nz (trans≤ nz l) l l)))

-- a term and the tail after it are within the tail before it: a / n + a s / (m d) ≤ a / (n d), for n ≤ m and d = 1 − s
tail_step : (a s n m : Fraction) → whole 0 ≤f a → whole 0 ≤f s → whole 0 <f whole 1 −f s → whole 0 <f n → n ≤f m
    → a ·f inv n +f (a ·f s) ·f inv (m ·f (whole 1 −f s)) ≤f a ·f inv (n ·f (whole 1 −f s))
tail_step a s n m na ns hd hn l = trans≤ (mono+ first second) together.to
  where
    d : Fraction
    d = whole 1 −f s

    g : Fraction
    g = inv (n ·f d)

    first : a ·f inv n ≤f a ·f (d ·f g)
    first = mul_left≤ na (split_inv hn hd).fro

    second : (a ·f s) ·f inv (m ·f d) ≤f a ·f (s ·f g)
    second = trans≤ (mul_left≤ (mul_nonneg na ns) (inv≤ (mul-pos hn hd) (mul≤ (le_of_lt hd) l))) (mul_assoc a s g).to

    together : a ·f (d ·f g) +f a ·f (s ·f g) ≈f a ·f g
    together =
        trans≈ (sym≈ (mul_add a (d ·f g) (s ·f g)))
        (cong· (refl≈ a) (trans≈ (sym≈ (add_mul d s g)) (trans≈ (cong· (complement s) (refl≈ g)) (one-mul g))))

module _ {z : Fraction} (nz : whole 0 ≤f z) (hd : whole 0 <f whole 1 −f z ·f z) where
  next_tail : (k : ℕ) → term z k +f tail z (suc k) ≤f tail z k
  unfolding term tail ◌÷f◌
  next_tail k =
      trans≤ (mono+ (refl≤ (term z k)) (mul≤ (inv_nonneg _) regroup.to))
      (tail_step (whole 2 ·f powf z (2 * k + 1)) (z ·f z) (whole (2 * k + 1)) (whole (2 * suc k + 1))
      (twice_nonneg nz k) (mul_nonneg nz nz) hd (whole_pos (odd_pos k)) (whole≤ (omega arith)))
    where
      regroup : whole 2 ·f powf z (2 * suc k + 1) ≈f (whole 2 ·f powf z (2 * k + 1)) ·f (z ·f z)
      regroup = trans≈ (cong· (refl≈ (whole 2)) (pow_odd z k)) (sym≈ (mul_assoc (whole 2) (powf z (2 * k + 1)) (z ·f z)))

  upper_falls : (k : ℕ) → terms z (suc k) +f tail z (suc k) ≤f terms z k +f tail z k
  unfolding terms
  upper_falls k = trans≤ (add_assoc (terms z k) (term z k) (tail z (suc k))).to (mono+ (refl≤ (terms z k)) (next_tail k))

  pub series_cross : (j k : ℕ) → terms z j ≤f terms z k +f tail z k
  series_cross = crossing (terms z) (λ i. terms z i +f tail z i) (terms_rise nz) upper_falls (λ k. le+ (tail_nonneg nz k))
