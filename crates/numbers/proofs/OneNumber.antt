-- What it means that a value is one number: its ends come as near as one asks, pairs that hold it meet, at most one fraction lies between
-- its ends at every depth, and "at or below" is an order. Of values that are only consistent none of this is true: ends 0 and 1 at every
-- depth are held by the pairs 0, 0 and 1, 1; and if y has ends 0 and 10 at every depth, then 9 is at or below y, and y at or below 1.
use Prim.Native.Nat.{ℕ, ◌+◌, ◌*◌, ◌≤◌}
use native.Mathlib.{Omega.{arith}, Nat.{le_refl}}
use Rattle.exact.specs.{Fraction.{Fraction, ◌≤f◌, ◌<f◌, ◌≈f◌, whole, ◌+f◌, neg, ◌−f◌, dec_lef}, Ends.{Ends}}
use Rattle.exact.{specs.Exact.{Exact, Holds, Above, AtOrBelow}, proofs.Order.{refl≤, trans≤, le_of_lt, not≤, not<}}
use Rattle.exact.proofs.Sums.{mono+, cancel≤, le+, add_assoc, sub_pos, lt_of_sum}
use Rattle.numbers.specs.Number.{Near, Narrows, Number}
use Rattle.numbers.proofs.{Near.{near_more, near_between}, Narrow.{narrow_at}, Floor.{part, part_positive, parts≤, units≤part}}

-- ---- the ends come together

-- from this depth on the ends of x are at most a part of e apart
enough : {x : Exact} → Narrows x → Fraction → ℕ
enough n e = 3 + n.rate * (3 * e.den)

module _ {x : Exact} (n : Narrows x) (e : Fraction) {k : ℕ} (h : enough n e ≤ k) where
  deep_enough : 3 ≤ k
  unfolding enough
  deep_enough = omega arith

  ends_part : Near (part e) (x k).lower (x k).upper
  unfolding enough
  ends_part = near_more (narrow_at n deep_enough) (units≤part e n.rate k (omega arith))

part_below : {e : Fraction} → whole 0 <f e → part e ≤f e
part_below {e} h =
    let o = le_of_lt (part_positive e) in
    trans≤ (trans≤ (le+ o) (le+ o)) (parts≤ h)

-- the ends come as near as one asks: from some depth on at most e apart
pub ends_together : {x : Exact} → Narrows x → (e : Fraction) → whole 0 <f e → (n : ℕ) × ((k : ℕ) → n ≤ k → Near e (x k).lower (x k).upper)
ends_together n e h = (enough n e, λ k d. near_more (ends_part n e d) (part_below h))

-- ---- three parts of the way from p to q

regained : (p q : Fraction) → p +f (q −f p) ≤f q
unfolding ◌−f◌ ◌+f◌ neg
regained p q = omega arith

module _ {p q : Fraction} (h : p <f q) where
  abbrev f : Fraction
  f = part (q −f p)

  three_parts : p +f f +f f +f f ≤f q
  three_parts =
      trans≤ (mono+ (add_assoc p f f).to (refl≤ f))
      (trans≤ (add_assoc p (f +f f) f).to (trans≤ (mono+ (refl≤ p) (parts≤ (sub_pos h))) (regained p q)))

  one_part_short : Near f p q → ⊥
  one_part_short n =
      let o = part_positive (q −f p) in
      not< (lt_of_sum three_parts o) (trans≤ n.near (le+ (le_of_lt o)))

-- ---- pairs that hold the value

-- a comparison by its contrary
refuted : {p q : Fraction} → (p <f q → ⊥) → q ≤f p
refuted {p} {q} h = go (dec_lef q p)
  where
    go : Dec (q ≤f p) → q ≤f p
    go (yes l) = l
    go (no l) = absurd (h (not≤ l))

-- two pairs that hold a value meet
pub held_overlap : {x : Exact} {A B : Ends} → Narrows x → Holds A x → Holds B x → A.lower ≤f B.upper
held_overlap {x} {A} {B} n h g =
    refuted
    (λ l.
    let e : Fraction = A.lower −f B.upper in
    let k = enough n e in
    let d = deep_enough n e (le_refl k) in
    one_part_short l (near_between (ends_part n e (le_refl k)) (g.right k d) (h.left k d)))

-- a fraction as a pair
abbrev alone : Fraction → Ends
alone p = record { lower = p; upper = p }

-- at most one fraction lies between the ends at every depth
pub one_fraction : {x : Exact} → Narrows x → {p q : Fraction} → Holds (alone p) x → Holds (alone q) x → p ≈f q
one_fraction n h g = record { to = held_overlap n h g; fro = held_overlap n g h }

-- ---- an order

module _ {x y : Exact} (a : Number x) (b : Number y) where
  -- what two depths show, one depth shows
  pub above_across : {j k : ℕ} → 3 ≤ j → 3 ≤ k → (y k).upper <f (x j).lower → Above x y
  above_across {j} {k} hj hk h = record { depth = m; deep = d; above = lt_of_sum (cancel≤ g spanned) (part_positive e) }
    where
      e : Fraction
      e = (x j).lower −f (y k).upper

      g : Fraction
      g = part e

      m : ℕ
      m = enough a.narrows e + enough b.narrows e

      d : 3 ≤ m
      d = deep_enough a.narrows e (omega arith)

      low : (y m).upper ≤f (y k).upper +f g
      low = (near_between (ends_part b.narrows e (omega arith)) (b.consistent.agree m k d hk) (refl≤ _)).near

      high : (x j).lower ≤f (x m).lower +f g
      high = (near_between (ends_part a.narrows e (omega arith)) (refl≤ _) (a.consistent.agree j m hj d)).near

      spanned : (y m).upper +f g +f g ≤f (x m).lower +f g
      spanned = trans≤ (mono+ (mono+ low (refl≤ g)) (refl≤ g)) (trans≤ (three_parts h) high)

  below_across : AtOrBelow x y → {j k : ℕ} → 3 ≤ j → 3 ≤ k → (x j).lower ≤f (y k).upper
  below_across n hj hk = refuted (λ h. n (above_across hj hk h))

pub below_trans : {x y z : Exact} → Number x → Number y → Number z → AtOrBelow x y → AtOrBelow y z → AtOrBelow x z
below_trans {x} {y} {z} a b c h g v =
    let e : Fraction = (x v.depth).lower −f (z v.depth).upper in
    let k = enough b.narrows e in
    let d = deep_enough b.narrows e (le_refl k) in
    one_part_short v.above
    (near_between (ends_part b.narrows e (le_refl k)) (below_across b c g d v.deep) (below_across a b h v.deep d))
