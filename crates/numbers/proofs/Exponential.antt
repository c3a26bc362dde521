-- The ends of an exponential come together, for any value whose ends do: below 0 it is one over an exponential that is at least 1.
use Prim.Native.Nat.{ℕ, ◌≤◌}
use native.Mathlib.Omega.{arith}
use Rattle.exact.specs.{Fraction.{Fraction, ◌≤f◌, whole, ◌+f◌, neg, inv, dec_lef}, Exact.{Exact}, Exponential.{exp_up, exp_of, exp}}
use Rattle.exact.{specs.Depth.{Consistent}, proofs.Order.{refl≤, trans≤, le_of_lt, not≤, whole_pos, choose_cases}}
use Rattle.exact.proofs.{Sums.{mono+, le+, neg≤, neg_nonpos}, Products.{add_mul}, Quotients.{inverse_low}, Consistency.{proper_at}}
use Rattle.exact.proofs.{ExpUp.{up_cross, up_least}, Exponential.{over, over_ends, neg_pos}}
use Rattle.numbers.specs.Number.{Near, Narrows}
use Rattle.numbers.proofs.{Near.{near_more, near_between, near_trans, near_neg}, Units.{unit, units_nonneg}}
use Rattle.numbers.proofs.{Narrow.{narrow_at, narrows_by, near_inverse_one}, Products.{bounded_at}}
use Rattle.numbers.proofs.{ExpSpread.{exp_spread, exp_spread_nonneg, exp_rate, exp_spread≤}, ExpUp.{exp_up_near, exp_up_zero}}

module _ {w lo hi : Fraction} {k : ℕ} (d : 3 ≤ k) (nw : whole 0 ≤f w) (l : lo ≤f hi) (n : Near w lo hi) (B : ℕ) (most : hi ≤f whole B)
    (most' : neg lo ≤f whole B) where
  abbrev W : Fraction
  W = exp_spread w B k

  c : 1 ≤ k
  c = omega arith

  upper_least : {q : Fraction} → whole 0 ≤f q → whole 1 ≤f (exp_up q k).upper
  upper_least {q} h = trans≤ (up_least h c) (up_cross h (refl≤ q) k k)

  -- from 0, where it is 1
  near_one : {q : Fraction} → whole 0 ≤f q → Near w (whole 0) q → q ≤f whole B → Near W (whole 1) (exp_up q k).upper
  near_one h m b = near_between (exp_up_near c nw (refl≤ (whole 0)) h m B b) (exp_up_zero k) (refl≤ _)

  across : ¬ (whole 0 ≤f lo) → whole 0 ≤f hi → Near (W +f W) (over (neg lo) k).lower (exp_up hi k).upper
  across m h =
      let p : whole 0 ≤f neg lo = le_of_lt (neg_pos m) in
      let below : Near W (inv (exp_up (neg lo) k).upper) (whole 1) =
      near_between
      (near_inverse_one (refl≤ (whole 1)) (upper_least p) (exp_spread_nonneg B k nw)
      (near_one p (near_between (near_neg n) (neg_nonpos h (refl≤ (whole 0))) (refl≤ _)) most'))
      (refl≤ _) (inverse_low (whole_pos (omega arith)) (refl≤ (whole 1))) in
      near_trans (near_between below (over_ends p d).lowers.fro (refl≤ (whole 1)))
      (near_one h (near_between n (le_of_lt (not≤ m)) (refl≤ hi)) most)

  beneath : ¬ (whole 0 ≤f lo) → ¬ (whole 0 ≤f hi) → Near W (over (neg lo) k).lower (over (neg hi) k).upper
  beneath m m' =
      let p : whole 0 ≤f neg lo = le_of_lt (neg_pos m) in
      let p' : whole 0 ≤f neg hi = le_of_lt (neg_pos m') in
      near_between
      (near_inverse_one (up_least p' c) (upper_least p) (exp_spread_nonneg B k nw) (exp_up_near c nw p' (neg≤ l) (near_neg n) B most'))
      (over_ends p d).lowers.fro (over_ends p' d).uppers.to

  exp_near_lem : Near (W +f W) (exp_of lo k).lower (exp_of hi k).upper
  unfolding exp_of
  exp_near_lem =
      let more = le+ (exp_spread_nonneg B k nw) in
      choose_cases (λ (x : Exact). Near (W +f W) (x k).lower (exp_of hi k).upper) (dec_lef (whole 0) lo)
      (λ h. choose_cases (λ (y : Exact). Near (W +f W) (exp_up lo k).lower (y k).upper) (dec_lef (whole 0) hi)
      (λ _. near_more (exp_up_near c nw h l n B most) more) (λ m. absurd (m (trans≤ h l))))
      (λ m. choose_cases (λ (y : Exact). Near (W +f W) (over (neg lo) k).lower (y k).upper) (dec_lef (whole 0) hi) (across m)
      (λ m'. near_more (beneath m m') more))

pub narrows_exp : {x : Exact} → Consistent x → Narrows x → Narrows (exp x)
unfolding exp
narrows_exp {x} c n =
    let b = bounded_at c n in
    let C : Fraction = whole n.rate in
    let r : Fraction = exp_rate C b.bound in
    narrows_by (r +f r)
    (λ k d.
    let s = exp_spread≤ C b.bound k in
    near_more
    (exp_near_lem d (units_nonneg n.rate k) (proper_at c d).proper (narrow_at n d) b.bound (b.ends k d).high (b.ends k d).low)
    (trans≤ (mono+ s s) (add_mul r r (unit k)).fro))
