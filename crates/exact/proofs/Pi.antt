-- π: consistent, and positive at every depth.
use Prim.Native.Nat.{ℕ, zero, suc, ◌+◌, ◌*◌, ◌^◌, ◌≤◌, ◌<◌}
use native.Mathlib.{Omega.{arith}, Nat.{mul-le-mul, pow-le-pow_right, one-le-pow, mul-pos}}
use lib.Dec.{lit<}
use Rattle.exact.specs.{Fraction.{◌≤f◌, ◌<f◌, whole, ◌+f◌, neg, ◌−f◌, ◌·f◌, inv}, Ends.{◌·e◌}, Exact.{exactly, ◌−x◌, ◌·x◌}}
use Rattle.exact.specs.{Pi.{alternating, arctan_term, arctan_over, π}, Depth.{Consistent, Proper, PositiveAt, SameEnds}}
use Rattle.exact.proofs.{Order.{trans≤, lt_of_lt_of_le, whole≤, whole_pos, nonneg}, Sums.{mono−}, Products.{mul_left≤}}
use Rattle.exact.proofs.Quotients.{inv≤, inv_nonneg}
use Rattle.exact.proofs.Consistency.{consistent_exactly, consistent_difference, consistent_product, proper_at}
use Rattle.exact.proofs.KnownEnds.{difference_ends, scaled_ends, same_trans, same_difference, difference_ends_lem, scaled_ends_lem}
use Rattle.exact.proofs.Alternating.{Falls, alternating_cross, alternating_low, alternating_high}

arctan_falls : (n : ℕ) → 0 < n → Falls (arctan_term n)
unfolding arctan_term
arctan_falls n h =
    record {
      falls = λ i. inv≤ (whole_pos (positive i)) (whole≤ (larger i));
      stays = λ i. inv_nonneg (whole ((2 * i + 1) * n ^ (2 * i + 1)));
    }
  where
    positive : (i : ℕ) → 0 < (2 * i + 1) * n ^ (2 * i + 1)
    positive i = mul-pos (omega arith) (one-le-pow (2 * i + 1) n h)

    larger : (i : ℕ) → (2 * i + 1) * n ^ (2 * i + 1) ≤ (2 * suc i + 1) * n ^ (2 * suc i + 1)
    larger i = mul-le-mul (omega arith) (pow-le-pow_right h (omega arith))

pub consistent_arctan : (n : ℕ) → 0 < n → Consistent (arctan_over n)
unfolding arctan_over
consistent_arctan n h = record { agree = λ j k hj hk. alternating_cross (arctan_term n) (arctan_falls n h) j k }

-- a whole number times an arctangent
consistent_part : (a n : ℕ) → 0 < n → Consistent (exactly (whole a) ·x arctan_over n)
consistent_part a n h = consistent_product (consistent_exactly (whole a)) (consistent_arctan n h)

pub consistent_π : Consistent π
unfolding π
consistent_π = consistent_difference (consistent_part 16 5 (omega arith)) (consistent_part 4 239 (omega arith))

pub π_ends_lem : {k : ℕ} → 3 ≤ k
    → SameEnds (π k) (difference_ends (scaled_ends (whole 16) (arctan_over 5 k)) (scaled_ends (whole 4) (arctan_over 239 k)))
unfolding π ◌−x◌ ◌·x◌
π_ends_lem {k} d =
    same_trans (difference_ends_lem (proper 16 5 (omega arith)) (proper 4 239 (omega arith)))
    (same_difference (part 16 5 (omega arith)) (part 4 239 (omega arith)))
  where
    proper : (a n : ℕ) → 0 < n → Proper (exactly (whole a) k ·e arctan_over n k)
    proper a n h = proper_at (consistent_part a n h) d

    part : (a n : ℕ) → 0 < n → SameEnds (exactly (whole a) k ·e arctan_over n k) (scaled_ends (whole a) (arctan_over n k))
    part a n h = scaled_ends_lem k (nonneg a) (proper_at (consistent_arctan n h) d)

start : whole 0 <f whole 16 ·f (arctan_term 5 0 −f arctan_term 5 1) −f whole 4 ·f arctan_term 239 0
unfolding arctan_term ◌−f◌ ◌+f◌ ◌·f◌ inv neg whole
start = record { lt = lit< tt }

pub positive_π : PositiveAt π
unfolding arctan_over
positive_π = record { at = λ k d. record { positive = lt_of_lt_of_le start (trans≤ (parts k d) (π_ends_lem d).lowers.fro) } }
  where
    low : (k : ℕ) → 3 ≤ k → arctan_term 5 0 −f arctan_term 5 1 ≤f alternating (arctan_term 5) (2 * k)
    low zero d = absurd (omega arith)
    low (suc k) d = alternating_low (arctan_term 5) (arctan_falls 5 (omega arith)) k

    parts : (k : ℕ) → 3 ≤ k
        → whole 16 ·f (arctan_term 5 0 −f arctan_term 5 1) −f whole 4 ·f arctan_term 239 0
        ≤f whole 16 ·f (arctan_over 5 k).lower −f whole 4 ·f (arctan_over 239 k).upper
    parts k d =
        mono− (mul_left≤ (nonneg 16) (low k d)) (mul_left≤ (nonneg 4)
        (alternating_high (arctan_term 239) (arctan_falls 239 (omega arith)) k))
