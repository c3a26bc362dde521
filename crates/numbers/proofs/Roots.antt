-- The ends of a root come together: those of a fraction's root are 10^−k apart, and roots of two fractions above a positive one are no
-- further apart than the fractions times a constant, since (b − a)·a^(n−1) ≤ b^n − a^n.
use Prim.Native.Nat.{ℕ, zero, suc, ◌^◌, ◌≤◌}
use mathlib.Core.{Path.{◌≡◌}, Logic.{◌⊎◌, inl, inr}}
use native.Mathlib.{Omega.{arith}, Nat.{pow-le-pow_left}}
use lib.Pow.{pow_pos}
use Rattle.exact.specs.{Fraction.{Fraction, ◌≤f◌, ◌<f◌, ◌≈f◌, whole, decimal, ◌+f◌, ◌·f◌, inv, powf, minf}, Exact.{Exact, exactly}}
use Rattle.exact.specs.{Root.{root_digits, root_of, root}, Depth.{Consistent, PositiveAt}}
use Rattle.exact.proofs.Order.{refl≤, trans≤, lt_of_lt_of_le, le_of_lt, refl≈, sym≈, trans≈, whole_pos, total, min_cases, min_left}
use Rattle.exact.proofs.{Order.{min_right}, Sums.{mono+}}
use Rattle.exact.proofs.Products.{mul≤, mul_left≤, mul_nonneg, mul_comm, mul_assoc, mul_one, one-mul, add_mul, cong·}
use Rattle.exact.proofs.{Quotients.{clamped, inv≤, inv_nonneg, mul_inv}, Series.{pow_nonneg, pow≤}, Squarings.{pow_least}}
use Rattle.exact.proofs.Consistency.{proper_at}
use Rattle.numbers.specs.Number.{Near, Narrows}
use Rattle.numbers.proofs.{Near.{near_below, near_more, near_between, near_trans, near_times}, Units.{unit, units_nonneg}}
use Rattle.numbers.proofs.{Narrow.{narrow_at, narrows_by}, Floor.{floor_at}, RootPowers.{below_next, digits_below}}

-- ---- 10^−k

tenth≤unit : (k : ℕ) → decimal 1 k ≤f unit k
unfolding decimal whole inv
tenth≤unit k =
    let e : (inv (whole (2 ^ k))).den ≡ 2 ^ k = clamped (pow_pos k) in
    omega (arith, e, pow-le-pow_left {n = 2} {m = 10} (omega arith) k)

-- one count more
next_near : (r k : ℕ) → Near (decimal 1 k) (decimal r k) (decimal (suc r) k)
unfolding decimal ◌+f◌
next_near r k = omega arith

pub narrows_root_exactly : (n : ℕ) (q : Fraction) → Narrows (root n (exactly q))
unfolding root root_of exactly
narrows_root_exactly n q =
    narrows_by (whole 1) (λ k d. near_more (next_near (root_digits n q k) k) (trans≤ (tenth≤unit k) (one-mul (unit k)).fro))

-- ---- from powers to roots

-- by a positive factor
near_cancel : {w a b p : Fraction} → whole 0 <f p → Near w (p ·f a) (p ·f b) → Near (inv p ·f w) a b
near_cancel {w} {a} {b} {p} h k =
    near_between (near_times (inv p) (inv_nonneg p) k) (restored a).to (restored b).fro
  where
    restored : (c : Fraction) → inv p ·f (p ·f c) ≈f c
    restored c = trans≈ (sym≈ (mul_assoc (inv p) p c)) (trans≈ (cong· (trans≈ (mul_comm (inv p) p) (mul_inv h)) (refl≈ c)) (one-mul c))

-- the power before is at least what the power is, or 1
power_before : {a c : Fraction} → whole 0 ≤f a → (m : ℕ) → c ≤f powf a (suc m) → minf (whole 1) c ≤f powf a m
unfolding powf
power_before {a} {c} n m h = go (total a (whole 1))
  where
    go : (a ≤f whole 1) ⊎ (whole 1 ≤f a) → minf (whole 1) c ≤f powf a m
    go (inl l) = trans≤ (min_right _ _) (trans≤ h (trans≤ (mul_left≤ (pow_nonneg n m) l) (mul_one _).to))
    go (inr l) = trans≤ (min_left _ _) (pow_least l m)

root_near : {w a b c : Fraction} → whole 0 ≤f a → whole 0 ≤f w → whole 0 <f c → (m : ℕ) → c ≤f powf a (suc m)
    → Near w (powf a (suc m)) (powf b (suc m)) → Near (inv (minf (whole 1) c) ·f w) a b
unfolding powf
root_near {w} {a} {b} {c} na nw pc m l h = go (total b a)
  where
    c' : Fraction
    c' = minf (whole 1) c

    pc' : whole 0 <f minf (whole 1) c
    pc' = min_cases (λ t. whole 0 <f t) (λ _. whole_pos (omega arith)) (λ _. pc)

    go : (b ≤f a) ⊎ (a ≤f b) → Near (inv (minf (whole 1) c) ·f w) a b
    go (inl s) = near_below (mul_nonneg (inv_nonneg _) nw) s
    go (inr s) =
        let q = power_before na m l in
        near_more (near_cancel (lt_of_lt_of_le pc' q) (near_between h (refl≤ _) (mul≤ (trans≤ na s) (pow≤ na s m))))
        (mul≤ nw (inv≤ pc' q))

-- ---- as a value

decimal_nonneg : (a k : ℕ) → whole 0 ≤f decimal a k
unfolding whole decimal
decimal_nonneg a k = omega arith

module _ (m k : ℕ) {lo hi w c : Fraction} (pc : whole 0 <f c) (l : c ≤f lo) (nh : whole 0 ≤f hi) (nw : whole 0 ≤f w) where
  root_narrow : Near w lo hi
      → Near (decimal 1 k +f inv (minf (whole 1) c) ·f w +f decimal 1 k) (root_of (suc m) lo k).lower (root_of (suc m) hi k).upper
  unfolding root_of
  root_narrow h =
      let n : ℕ = suc m in
      let o : 1 ≤ n = omega arith in
      let next = below_next n o lo k in
      near_trans
      (near_trans (next_near (root_digits n lo k) k)
      (root_near (decimal_nonneg (suc (root_digits n lo k)) k) nw pc m (trans≤ l next) (near_between h next (digits_below n o hi k nh))))
      (next_near (root_digits n hi k) k)

pub narrows_root : (n : ℕ) {x : Exact} → 1 ≤ n → Consistent x → PositiveAt x → Narrows x → Narrows (root n x)
unfolding root
narrows_root zero h c p n = absurd (omega arith)
narrows_root (suc m) {x} h c p n =
    let f = floor_at c p n in
    let g : Fraction = inv (minf (whole 1) f.least) in
    let C : Fraction = whole n.rate in
    narrows_by (whole 1 +f g ·f C +f whole 1)
    (λ k d.
    let u : Fraction = unit k in
    let t : decimal 1 k ≤f whole 1 ·f u = trans≤ (tenth≤unit k) (one-mul u).fro in
    let l = f.below k d in
    near_more
    (root_narrow m k f.positive l (trans≤ (le_of_lt f.positive) (trans≤ l (proper_at c d).proper)) (units_nonneg n.rate k)
    (narrow_at n d))
    (trans≤ (mono+ (trans≤ (mono+ t (mul_assoc g C u).fro) (add_mul (whole 1) (g ·f C) u).fro) t) (add_mul _ (whole 1) u).fro))
