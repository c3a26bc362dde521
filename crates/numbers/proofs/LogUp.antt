-- ln q for q ≥ 1 at two near fractions, from lower end to upper end: what the arguments differ by, and the tails.
use Prim.Native.Nat.{ℕ, suc, ◌^◌, ◌≤◌, suc-le-suc}
use native.Mathlib.Omega.{arith}
use Rattle.exact.specs.{Fraction.{Fraction, ◌≤f◌, whole, ◌+f◌, ◌·f◌}, Logarithm.{halvings, ln_up}}
use Rattle.exact.proofs.{Order.{refl≤, trans≤, whole≤, nonneg}, Sums.{mono+, le+, add_comm}}
use Rattle.exact.proofs.{Products.{mul≤, mul_left≤, mul_nonneg, mul_assoc, add_mul, suc_times}, Powers.{below_pow}, Convolution.{zero_mul}}
use Rattle.exact.proofs.{Halvings.{power≤, reduced_low, reduced_high}, LogUp.{up_ends}}
use Rattle.numbers.specs.Number.{Near}
use Rattle.numbers.proofs.{Near.{near_more, near_between, near_trans, near_sum, near_times}, Units.{unit, units_nonneg}}
use Rattle.numbers.proofs.{LogNear.{ends_near}, TwoPowers.{whole≤_inv, one≤two}, Halvings.{from_power, reduced_near}}

-- what the tails come to, with at most B halvings
abbrev pub tails : ℕ → ℕ → Fraction
tails B k = whole (suc B) ·f (whole 4 ·f unit k)

-- and with what a distance w of the arguments comes to
abbrev pub spread : Fraction → ℕ → ℕ → Fraction
spread w B k = whole 8 ·f w +f (whole 8 ·f w +f whole 8 ·f w) +f tails B k

pub spread_nonneg : {w : Fraction} (B k : ℕ) → whole 0 ≤f w → whole 0 ≤f spread w B k
spread_nonneg B k nw =
    let n = mul_nonneg (nonneg 8) nw in
    trans≤ (trans≤ n (le+ (trans≤ n (le+ n)))) (le+ (mul_nonneg (nonneg (suc B)) (units_nonneg 4 k)))

pub spread_more : {v w : Fraction} (B k : ℕ) → v ≤f w → spread v B k ≤f spread w B k
spread_more B k l =
    let e = mul_left≤ (nonneg 8) l in
    mono+ (mono+ e (mono+ e e)) (refl≤ (tails B k))

-- as a multiple of 1 / 2^k
abbrev pub spread_rate : Fraction → ℕ → Fraction
spread_rate a B = whole 8 ·f a +f (whole 8 ·f a +f whole 8 ·f a) +f whole (suc B) ·f whole 4

pub spread≤ : (a : Fraction) (B k : ℕ) → spread (a ·f unit k) B k ≤f spread_rate a B ·f unit k
spread≤ a B k =
    let u : Fraction = unit k in
    let e : Fraction = whole 8 ·f a in
    let one : whole 8 ·f (a ·f u) ≤f e ·f u = (mul_assoc (whole 8) a u).fro in
    trans≤
    (mono+ (trans≤ (mono+ one (trans≤ (mono+ one one) (add_mul e e u).fro)) (add_mul e (e +f e) u).fro)
    (mul_assoc (whole (suc B)) (whole 4) u).fro)
    (add_mul _ _ u).fro

module _ {q : Fraction} (h : whole 1 ≤f q) (B k : ℕ) (most : q ≤f whole B) where
  halvings_bounded : halvings q ≤ B
  halvings_bounded =
      let a : 2 ^ halvings q ≤ B = whole≤_inv (trans≤ (power≤ h) most) in
      omega (arith, a, below_pow 2 (halvings q) (omega arith))

  up_gap : Near (tails B k) (ln_up q k).lower (ln_up q k).upper
  up_gap =
      let e = up_ends h k in
      let count = near_times (whole (halvings q)) (nonneg _) (ends_near k one≤two (refl≤ (whole 2))) in
      near_between
      (near_more (near_sum count (ends_near k (reduced_low h) (reduced_high h)))
      (trans≤ (suc_times (halvings q) (whole 4 ·f unit k)).fro (mul≤ (units_nonneg 4 k) (whole≤ (suc-le-suc halvings_bounded)))))
      e.lowers.fro e.uppers.to

module _ {w q' : Fraction} (nw : whole 0 ≤f w) (h' : whole 1 ≤f q') (B k : ℕ) (most : q' ≤f whole B) where
  pub up_near : {q : Fraction} → whole 1 ≤f q → q ≤f q' → Near w q q' → Near (spread w B k) (ln_up q k).lower (ln_up q' k).upper
  up_near {q} h l n =
      let e = up_ends h k in
      let e' = up_ends h' k in
      near_trans (near_between (reduced_near k nw h l n) e.lowers.fro e'.lowers.to) (up_gap h' B k most)

  -- from 1, where it is 0
  pub up_near_one : Near w (whole 1) q' → Near (spread w B k) (whole 0) (ln_up q' k).upper
  up_near_one n =
      let e' = up_ends h' k in
      let n8 = mul_nonneg (nonneg 8) nw in
      near_trans
      (near_more (near_between (from_power k nw 0 h' (omega arith) n) (zero_mul _).to e'.lowers.to)
      (trans≤ (le+ n8) (add_comm _ (whole 8 ·f w)).to))
      (up_gap h' B k most)
