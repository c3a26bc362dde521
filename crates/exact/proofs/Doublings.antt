-- The count j of e^q, the least for which q / 2^j is at most 1/2: it grows with q. And a power that grows from halving to halving.
use Prim.Native.Nat.{ℕ, suc, ◌+◌, ◌*◌, ◌^◌, ◌≤◌}
use mathlib.Core.Path.{◌≡◌, ap}
use native.Mathlib.{Omega.{arith}, Nat.{zero-add, pow-suc, mul-le-mul_left, mul-le-mul_right, le_of_mul-le-mul_right}}
use lib.Pow.{pow_pos}
use Rattle.exact.specs.{Fraction.{Fraction, ◌≤f◌, ◌≈f◌, whole, ◌+f◌, ◌·f◌, inv, ◌÷f◌, top, powf}, Exponential.{doublings, small}}
use Rattle.exact.proofs.Order.{trans≤, refl≈, sym≈, trans≈, whole_pos}
use Rattle.exact.proofs.Products.{mul_nonneg, mul_comm, mul_assoc, cong·, whole_mul}
use Rattle.exact.proofs.{Quotients.{clamped, inv_nonneg, split_inv, div≤}, Divisors.{inv_cong}, Powers.{below_pow, top≤}}
use Rattle.exact.proofs.{Sequences.{rising}, Series.{pow≤}, Least.{least_reaches, least_below}, ExpTerms.{half, double_sum}}
use Rattle.exact.proofs.Squarings.{pow_of_square}

enough : (t d : ℕ) → 1 ≤ d → 2 * t ≤ 2 ^ (0 + suc t) * d
enough t d h =
    let l : 2 * t ≤ 2 ^ suc t = simp pow-suc (omega (arith, below_pow 2 t (omega arith))) in
    rw zero-add (omega (arith, l, mul-le-mul_left (2 ^ suc t) h))

pub doublings_reach : (q : Fraction) → 2 * top q ≤ 2 ^ doublings q * q.den
unfolding doublings
doublings_reach q = least_reaches (λ j. 2 ^ j * q.den) (2 * top q) (suc (top q)) 0 (enough (top q) q.den q.positive)

pub doublings_least : (q : Fraction) (j : ℕ) → 2 * top q ≤ 2 ^ j * q.den → doublings q ≤ j
unfolding doublings
doublings_least q j h = least_below (λ j. 2 ^ j * q.den) (2 * top q) (suc (top q)) 0 j (omega arith) h

pub doublings≤ : {a b : Fraction} → a ≤f b → doublings a ≤ doublings b
doublings≤ {a} {b} l =
    doublings_least a (doublings b)
    (le_of_mul-le-mul_right (omega (arith, mul-le-mul_right a.den (doublings_reach b), top≤ l)) b.positive)

-- ---- q / 2^m

abbrev pub halved : ℕ → Fraction → Fraction
halved m q = q ÷f whole (2 ^ m)

pub small_high : (q : Fraction) → small q ≤f half
unfolding small whole top inv ◌·f◌ ◌÷f◌
small_high q =
    let e : (inv (whole (2 ^ doublings q))).den ≡ 2 ^ doublings q = clamped (pow_pos (doublings q)) in
    omega (arith, doublings_reach q, ap (λ t. q.den * t) e)

pub halved_nonneg : {q : Fraction} (m : ℕ) → whole 0 ≤f q → whole 0 ≤f halved m q
unfolding ◌÷f◌
halved_nonneg m h = mul_nonneg h (inv_nonneg _)

pub halved_double : (m : ℕ) (q : Fraction) → halved m q ≈f halved (suc m) q +f halved (suc m) q
unfolding ◌÷f◌
halved_double m q =
    sym≈
    (trans≈ (sym≈ (double_sum (halved (suc m) q)))
    (trans≈ (sym≈ (mul_assoc (whole 2) q _))
    (trans≈ (cong· (mul_comm (whole 2) q) (refl≈ _)) (trans≈ (mul_assoc q (whole 2) _) (cong· (refl≈ q) inverse)))))
  where
    inverse : whole 2 ·f inv (whole (2 ^ suc m)) ≈f inv (whole (2 ^ m))
    inverse =
        trans≈ (cong· (refl≈ _) (inv_cong (whole_pos (pow_pos (suc m))) (rw pow-suc (whole_mul (2 ^ m) 2))))
        (split_inv (whole_pos (pow_pos m)) (whole_pos (omega arith)))

-- ---- the 2^m-th power of F at q / 2^m

-- F grows, and at a double argument it is at most the square
pub record Doubling (F : Fraction → Fraction) : Type 0 where
  pub stays : {y : Fraction} → whole 0 ≤f y → whole 0 ≤f F y
  pub grows : {y z : Fraction} → whole 0 ≤f y → y ≤f z → F y ≤f F z
  pub doubles : {y : Fraction} → whole 0 ≤f y → F (y +f y) ≤f F y ·f F y

module _ {F : Fraction → Fraction} (d : Doubling F) where
  abbrev raised : Fraction → ℕ → Fraction
  raised q m = powf (F (halved m q)) (2 ^ m)

  raised_rises : {q : Fraction} → whole 0 ≤f q → (m : ℕ) → raised q m ≤f raised q (suc m)
  raised_rises {q} h m =
      let w = halved_nonneg (suc m) h in
      trans≤ (pow≤ (d.stays (halved_nonneg m h)) (trans≤ (d.grows (halved_nonneg m h) (halved_double m q).to) (d.doubles w)) (2 ^ m))
      (pow_of_square (F (halved (suc m) q)) m).to

  pub raised≤ : {a b : Fraction} {m n : ℕ} → whole 0 ≤f a → a ≤f b → m ≤ n → raised a m ≤f raised b n
  raised≤ {a} {b} {m} h l c =
      trans≤ (pow≤ (d.stays (halved_nonneg m h)) (d.grows (halved_nonneg m h) (div≤ _ l)) (2 ^ m))
      (rising (raised b) (raised_rises (trans≤ h l)) c)
