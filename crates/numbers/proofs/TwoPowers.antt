-- Powers of two as whole numbers, and near fractions divided by them.
use Prim.Native.Nat.{ℕ, zero, suc, ◌+◌, ◌^◌, ◌≤◌}
use mathlib.Core.Path.{◌≡◌}
use native.Mathlib.{Omega.{arith}, Nat.{add-zero as nat-add-zero, add-suc, le_dest, pow-suc}}
use lib.Pow.{pow_pos}
use Rattle.exact.{specs.Fraction.{Fraction, ◌≤f◌, ◌<f◌, ◌≈f◌, whole, ◌+f◌, ◌÷f◌}, proofs.Order.{trans≤, refl≈, trans≈, whole≤, whole_pos}}
use Rattle.exact.proofs.{Products.{mul≤, mul_comm, one-mul, cong·, whole_mul}, Quotients.{mul_inv}}
use Rattle.numbers.specs.Number.{Near}
use Rattle.numbers.proofs.{Near.{exchanged, near_more, near_between, near_times}, Units.{unit, unit_nonneg, unit_high}}

pub whole≤_inv : {a b : ℕ} → whole a ≤f whole b → a ≤ b
unfolding whole
whole≤_inv h = omega arith

pub whole_sums : (a b c d : ℕ) → a + b ≤ c + d → whole a +f whole b ≤f whole c +f whole d
unfolding whole ◌+f◌
whole_sums a b c d h = omega arith

-- 2^m grows faster than m
powers_outrun : (b d : ℕ) → b + d + 2 ^ b ≤ 2 ^ (b + d) + b
powers_outrun b zero = rw nat-add-zero (omega arith)
powers_outrun b (suc d) =
    let t = powers_outrun b d in
    let p : 1 ≤ 2 ^ (b + d) = pow_pos (b + d) in
    rw (add-suc b d, pow-suc 2 (b + d)) (omega (arith, t, p))

pub outrun : {b m : ℕ} → b ≤ m → m + 2 ^ b ≤ 2 ^ m + b
outrun {b} {m} l = go (le_dest l)
  where
    go : (d : ℕ) × (b + d ≡ m) → m + 2 ^ b ≤ 2 ^ m + b
    go e = rw e.1 at (powers_outrun b e.0)

pub whole_power : (m : ℕ) → whole 0 <f whole (2 ^ m)
whole_power m = whole_pos (pow_pos m)

pub next_halved : (m : ℕ) → whole (2 ^ suc m) ÷f whole (2 ^ m) ≈f whole 2
unfolding ◌÷f◌
next_halved m =
    trans≈ (cong· (rw pow-suc (whole_mul (2 ^ m) 2)) (refl≈ (unit m)))
    (trans≈ (exchanged (whole (2 ^ m)) (whole 2) (unit m)) (trans≈ (cong· (mul_inv (whole_power m)) (refl≈ _)) (one-mul (whole 2))))

-- near fractions stay near, over 2^m
pub near_halved : {w q q' : Fraction} (m : ℕ) → whole 0 ≤f w → Near w q q' → Near w (q ÷f whole (2 ^ m)) (q' ÷f whole (2 ^ m))
unfolding ◌÷f◌
near_halved {w} m nw h =
    near_more (near_between (near_times (unit m) (unit_nonneg m) h) (mul_comm (unit m) _).to (mul_comm _ (unit m)).to)
    (trans≤ (mul≤ nw (unit_high m)) (one-mul w).to)

pub one≤two : whole 1 ≤f whole 2
one≤two = whole≤ (omega arith)
