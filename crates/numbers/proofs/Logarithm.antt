-- The ends of a logarithm come together, for a positive value whose ends do.
use Prim.Native.Nat.{ℕ}
use native.Mathlib.Omega.{arith}
use Rattle.exact.specs.{Fraction.{Fraction, ◌≤f◌, ◌<f◌, whole, ◌+f◌, neg, ◌·f◌, inv}, Ends.{minus_ends}, Exact.{Exact, minus}}
use Rattle.exact.{specs.{Logarithm.{ln_of, ln}, Depth.{Consistent, PositiveAt}}, proofs.Order.{refl≤, trans≤, lt_of_lt_of_le, le_of_lt}}
use Rattle.exact.proofs.{Sums.{mono+, le+, add_comm}, Products.{mul_left≤, mul_nonneg, mul_one, add_mul}}
use Rattle.exact.proofs.{Quotients.{inv≤, inv_nonneg, mul_inv}, Exponential.{inverse_high}, Consistency.{proper_at}, Logarithm.{ln_cases}}
use Rattle.numbers.specs.Number.{Near, Narrows}
use Rattle.numbers.proofs.Near.{exchanged, whole_above, near_more, near_between, near_trans, near_neg, near_inverse}
use Rattle.numbers.proofs.{Units.{unit, units_nonneg}, Narrow.{narrow_at, narrows_by}, Products.{bounded_at}, Floor.{floor_at}}
use Rattle.numbers.proofs.LogUp.{spread, spread_nonneg, spread_more, spread_rate, spread≤, up_near, up_near_one}

zero≤neg : whole 0 ≤f neg (whole 0)
unfolding neg whole
zero≤neg = omega arith

-- what has an inverse of at least 1 is at most 1
inverse_above : {q : Fraction} → whole 0 <f q → whole 1 ≤f inv q → q ≤f whole 1
inverse_above {q} p h = trans≤ (mul_one q).fro (trans≤ (mul_left≤ (le_of_lt p) h) (mul_inv p).to)

module _ {w c q q' : Fraction} (nw : whole 0 ≤f w) (pc : whole 0 <f c) (low : c ≤f q) (l : q ≤f q') (n : Near w q q') (B B' k : ℕ)
    (most : q' ≤f whole B) (most' : inv c ≤f whole B') where
  -- both at least 1; or below 1 and at least 1, through ln 1, which is 0; or both below 1
  ln_near_lem : Near (spread w B k +f spread (w ·f (inv c ·f inv c)) B' k) (ln_of q k).lower (ln_of q' k).upper
  unfolding minus minus_ends
  ln_near_lem =
      ln_cases pq l (λ x y. Near S (x k).lower (y k).upper)
      (λ h. near_more (up_near nw (trans≤ h l) B k most h l n) (le+ (spread_nonneg B' k ni)))
      (λ h h'. near_more (near_trans (near_between (near_neg (up_near_one ni h B' k most'' (over h h'))) (refl≤ _) zero≤neg)
      (up_near_one nw h' B k most (near_between n (inverse_above pq h) (refl≤ q')))) (add_comm _ _).to)
      (λ h m. near_more (near_neg (up_near ni (trans≤ h m) B' k most'' h m (near_inverse pc low (trans≤ low l) nw n)))
      (trans≤ (le+ (spread_nonneg B k nw)) (add_comm _ _).to))
    where
      -- what 1/q and 1/q' differ by
      ni : whole 0 ≤f w ·f (inv c ·f inv c)
      ni = mul_nonneg nw (mul_nonneg (inv_nonneg c) (inv_nonneg c))

      S : Fraction
      S = spread w B k +f spread (w ·f (inv c ·f inv c)) B' k

      pq : whole 0 <f q
      pq = lt_of_lt_of_le pc low

      most'' : inv q ≤f whole B'
      most'' = trans≤ (inv≤ pc low) most'

      over : whole 1 ≤f inv q → whole 1 ≤f q' → Near (w ·f (inv c ·f inv c)) (whole 1) (inv q)
      over h h' =
          near_between (near_inverse pc low (trans≤ low (inverse_above pq h)) nw (near_between n (refl≤ q) h'))
          (inverse_high (refl≤ (whole 1))) (refl≤ _)

pub narrows_ln : {x : Exact} → PositiveAt x → Consistent x → Narrows x → Narrows (ln x)
unfolding ln
narrows_ln {x} p c n =
    let f = floor_at c p n in
    let b = bounded_at c n in
    let g : Fraction = inv f.least in
    let C : Fraction = whole n.rate in
    let D : Fraction = C ·f (g ·f g) in
    narrows_by (spread_rate C b.bound +f spread_rate D g.plus)
    (λ k d.
    let u : Fraction = unit k in
    near_more
    (ln_near_lem (units_nonneg n.rate k) f.positive (f.below k d) (proper_at c d).proper (narrow_at n d) b.bound g.plus k
    (b.ends k d).high (whole_above g))
    (trans≤ (mono+ (spread≤ C b.bound k) (trans≤ (spread_more g.plus k (exchanged C u (g ·f g)).to) (spread≤ D g.plus k)))
    (add_mul _ _ u).fro))
