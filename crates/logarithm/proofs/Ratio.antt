-- p / q at least 1, its halvings m and the base b = q · 2^m, which doubling finds: b ≤ p < 2 b.
use Prim.Native.Nat.{ℕ, zero, suc, ◌-◌, ◌*◌, ◌/◌, ◌^◌, ◌≤◌, ◌<◌}
use mathlib.Core.Path.{◌≡◌, refl, ap, ◌∙◌}
use native.Mathlib.{Omega.{arith}, Nat.{mul-le-mul_right, mul-pos, mul-lt-mul_of_pos_right, pow-suc}}
use lib.Pow.{pow_pos, pow-add}
use Rattle.exact.{specs.Fraction.{◌≤f◌, whole, ◌·f◌, inv, ◌÷f◌, top}, proofs.Powers.{exponent_lt_inv}}
use Rattle.exact.proofs.Halvings.{halvings_below, halvings_above, halvings_unique}
use Rattle.logarithm.specs.Ends.{most, halvings_of, base_of}

module _ (p : ℕ) {q : ℕ} (hq : 1 ≤ q) where
  pub ratio_den : (whole p ÷f whole q).den ≡ q
  unfolding whole ◌·f◌ inv ◌÷f◌
  ratio_den = omega arith

  pub scaled : (n : ℕ) → n * (whole p ÷f whole q).den ≡ n * q
  scaled n = ap (λ t. n * t) ratio_den

  pub ratio_top : top (whole p ÷f whole q) ≡ p
  unfolding whole ◌·f◌ inv ◌÷f◌ top
  ratio_top = omega arith

module _ {p q : ℕ} (hq : 1 ≤ q) (h : q ≤ p) where
  pub ratio_low_lem : whole 1 ≤f whole p ÷f whole q
  unfolding whole ◌·f◌ inv ◌÷f◌
  ratio_low_lem = omega (arith, ratio_den p hq)

  -- the halvings are known by b ≤ p < 2 b
  pub halvings_known : (m : ℕ) → q * 2 ^ m ≤ p → p < 2 * (q * 2 ^ m) → halvings_of p q ≡ m
  unfolding halvings_of
  halvings_known m l u =
      halvings_unique ratio_low_lem m (omega (arith, scaled p hq (2 ^ m), ratio_top p hq))
      (omega (arith, scaled p hq (2 ^ suc m), ratio_top p hq, ap (λ t. t * q) (pow-suc 2 m)))

  pub base_below : base_of p q ≤ p
  unfolding base_of halvings_of
  base_below = omega (arith, halvings_below ratio_low_lem, scaled p hq (2 ^ halvings_of p q), ratio_top p hq)

  pub base_above : p < 2 * base_of p q
  unfolding base_of halvings_of
  base_above =
      let m = halvings_of p q in
      omega (arith, halvings_above ratio_low_lem, scaled p hq (2 ^ suc m), ratio_top p hq, ap (λ t. t * q) (pow-suc 2 m))

  pub halvings_small : p ≤ most → halvings_of p q ≤ 49
  unfolding base_of
  halvings_small l =
      let m = halvings_of p q in
      let s : 2 ^ m < 2 ^ 50 = omega (arith, base_below, mul-le-mul_right (2 ^ m) hq) in
      let b : m < 50 = exponent_lt_inv 2 (omega arith) s in
      omega arith

  pub base_pos : 1 ≤ base_of p q
  unfolding base_of
  base_pos = mul-pos hq (pow_pos (halvings_of p q))

-- ---- by the logarithms m and n of q and p to base 2

-- 2^m is not above x, and 2^(m+1) is
pub record Log (x m : ℕ) : Type 0 where
  pub low : 2 ^ m ≤ x
  pub high : x < 2 * 2 ^ m

module _ {p q m n : ℕ} (hq : 1 ≤ q) (l : q ≤ p) (a : Log q m) (b : Log p n) where
  pub log≤ : m ≤ n
  log≤ =
      let s : 2 ^ m < 2 ^ suc n = omega (arith, a.low, b.high, pow-suc 2 n) in
      let k : m < suc n = exponent_lt_inv 2 (omega arith) s in
      omega arith

  -- doubled until its logarithm is that of p
  pub raised : q * 2 ^ (n - m) < 2 * 2 ^ n × (p < 2 * (q * 2 ^ (n - m)))
  raised =
      let e : 2 ^ n ≡ 2 ^ m * 2 ^ (n - m) = ap (λ t. 2 ^ t) (omega (arith, log≤)) ∙ pow-add 2 m (n - m) in (
        omega (arith, e, mul-lt-mul_of_pos_right a.high (pow_pos (n - m))),
        omega (arith, e, b.high, mul-le-mul_right (2 ^ (n - m)) a.low),
      )

  -- where that is not above p
  pub whole_known : q * 2 ^ (n - m) ≤ p → (halvings_of p q ≡ n - m) × (base_of p q ≡ q * 2 ^ (n - m))
  unfolding base_of
  whole_known k = let e = halvings_known hq l (n - m) k raised.1 in (e, rw e)

  -- else one doubling fewer
  pub half_known : p < q * 2 ^ (n - m) → (1 ≤ n - m) × ((halvings_of p q ≡ n - m - 1) × (base_of p q ≡ q * 2 ^ (n - m) / 2))
  unfolding base_of
  half_known k = go (n - m) refl
    where
      go : (t : ℕ) → n - m ≡ t → (1 ≤ n - m) × ((halvings_of p q ≡ n - m - 1) × (q * 2 ^ halvings_of p q ≡ q * 2 ^ (n - m) / 2))
      go zero e = absurd (omega (arith, k, l, ap (λ t. q * 2 ^ t) e))
      go (suc t) e =
          let d : q * 2 ^ (n - m) ≡ 2 * (q * 2 ^ t) = rw (e, pow-suc) (omega arith) in
          let s = halvings_known hq l t (omega (arith, d, raised.0, b.low)) (omega (arith, d, k)) in
          (omega arith, (omega (arith, s), rw (s, d) (omega arith)))
