-- The ends of ln (p/q), above and below 1: they enclose the exact ones at the depth of code, are in order, close and small.
use Prim.Native.Nat.{ℕ, ◌+◌, ◌*◌, ◌≤◌, ◌<◌}
use mathlib.Core.{Path.{◌≡◌, ap}, Bool.{Bool, true, false, not, cond}}
use native.Mathlib.Omega.{arith}
use lib.Dec.{T, ltb, ltb→lt, nltb→le}
use Rattle.whole.proofs.Signed.{neg_plus, neg_minus, size_neg, le_halves, halves_le}
use Rattle.interval.specs.{declared.Interval.{Interval}, Operations.{natural, size, minus_of, Ordered, Narrow}}
use Rattle.exact.specs.{Fraction.{◌<f◌, ◌≈f◌, whole, ◌·f◌, inv, ◌÷f◌}, Exact.{Holds}, Logarithm.{ln_of}, Reported.{ten, reported}}
use Rattle.exact.{specs.Depth.{work_depth, Within}, proofs.{Quotients.{inv_pos}, Inclusion.{within_trans, within_same}}}
use Rattle.exact.proofs.{Logarithm.{ln_value, within_ln_down, consistent_ln_of}, Holding.{holds_depth}}
use Rattle.enclosure.proofs.Sums.{minus_within}
use Rattle.logarithm.specs.Ends.{most, gap, Inside, halvings_of, argument_of, end_of, up_ends, down_ends, ln_ends}
use Rattle.logarithm.proofs.{Sizes.{end_bound, end_size}, Ratio.{ratio_den, scaled, halvings_small}, ArgumentEnds.{argument_size}}
use Rattle.logarithm.proofs.UpEnds.{up_encloses}

-- minus the ends of ln (q/p), or the ends themselves
pub ln_cases : (P : Interval → Type 0) (p q : ℕ) → (p < q → P (down_ends p q)) → (q ≤ p → P (up_ends p q)) → P (ln_ends p q)
unfolding ln_ends
ln_cases P p q f g = go (ltb p q) (ltb→lt p q) (nltb→le p q)
  where
    go : (t : Bool) → (T t → p < q) → (T (not t) → q ≤ p) → P (cond t (down_ends p q) (up_ends p q))
    go true h k = f (h tt)
    go false h k = g (k tt)

-- ---- enclosure

module _ {p q : ℕ} (hp : 1 ≤ p) (hq : 1 ≤ q) where
  pub ratio_positive : whole 0 <f whole p ÷f whole q
  unfolding whole ◌·f◌ inv ◌÷f◌
  ratio_positive = omega arith

  ratio_below : p < q → whole p ÷f whole q <f whole 1
  unfolding whole ◌·f◌ inv ◌÷f◌
  ratio_below l = omega (arith, ratio_den p hq)

  ratio_turned : inv (whole p ÷f whole q) ≈f whole q ÷f whole p
  unfolding whole ◌·f◌ inv ◌÷f◌
  ratio_turned =
      let r = whole q ÷f whole p in
      let e : (inv (whole p ÷f whole q)).den ≡ p = omega arith in
      omega (arith, ap (λ t. t * r.den) (ratio_den p hq), scaled q hp q, ap (λ t. q * t) e)

  -- below 1 it is minus the logarithm of the inverse
  pub turned_encloses : (i : Interval) → p < q → Within (ln_of (whole q ÷f whole p) work_depth) (reported (ten 9) i)
      → Within (ln_of (whole p ÷f whole q) work_depth) (reported (ten 9) (minus_of i))
  turned_encloses i l h =
      within_trans
      (within_ln_down work_depth ratio_positive (ratio_below l) (within_trans (within_same (ln_value (inv_pos _) ratio_turned work_depth)) h))
      (minus_within (ten 9) i)

  down_encloses : q ≤ most → p < q → Within (ln_of (whole p ÷f whole q) work_depth) (reported (ten 9) (down_ends p q))
  unfolding down_ends
  down_encloses k l = turned_encloses (up_ends q p) l (up_encloses hp (omega arith) k)

module _ {p q : ℕ} (hp : Inside p) (hq : Inside q) where
  pub ln_encloses : Within (ln_of (whole p ÷f whole q) work_depth) (reported (ten 9) (ln_ends p q))
  ln_encloses =
      ln_cases (λ i. Within (ln_of (whole p ÷f whole q) work_depth) (reported (ten 9) i)) p q (down_encloses hp.low hq.low hq.high)
      (λ l. up_encloses hq.low l hp.high)

  pub ln_holds : Holds (reported (ten 9) (ln_ends p q)) (ln_of (whole p ÷f whole q))
  ln_holds = holds_depth (consistent_ln_of (ratio_positive hp.low hq.low)) (omega arith) ln_encloses

-- ---- order, width and size

module _ {p q : ℕ} (hp : Inside p) (hq : Inside q) (l : q ≤ p) where
  halvings_few : halvings_of p q ≤ 49
  halvings_few = halvings_small hq.low l hp.high

  pub up_size : end_of 0 (halvings_of p q) (argument_of p q) + gap < end_bound
  up_size = end_size {up = 0} (omega arith) halvings_few (omega (arith, argument_size hq.low l))

-- what is asked of a pair of ends
pub record Tight (i : Interval) : Type 0 where
  pub ordered : Ordered i
  pub narrow : Narrow i 11
  pub small : size i < end_bound

pub up_tight : {p q : ℕ} → Inside p → Inside q → q ≤ p → Tight (up_ends p q)
unfolding up_ends natural size
up_tight {p} {q} hp hq l =
    record {
      ordered = record { ordered = halves_le _ _ (omega arith) };
      narrow = record { narrow = omega arith };
      small = omega (arith, up_size hp hq l);
    }

minus_tight : (i : Interval) → Tight i → Tight (minus_of i)
unfolding minus_of size
minus_tight i t =
    let a = i.lower in
    let b = i.upper in
    record {
      ordered =
          record {
            ordered = halves_le _ _ (omega (
              arith,
              le_halves t.ordered.ordered,
              neg_plus a,
              neg_minus a,
              neg_plus b,
              neg_minus
                  b,
            ));
          };
      narrow = record { narrow = omega (arith, t.narrow.narrow, neg_plus a, neg_minus a, neg_plus b, neg_minus b) };
      small = omega (arith, t.small, size_neg a, size_neg b);
    }

ln_tight : {p q : ℕ} → Inside p → Inside q → Tight (ln_ends p q)
unfolding down_ends
ln_tight {p} {q} hp hq = ln_cases Tight p q (λ l. minus_tight (up_ends q p) (up_tight hq hp (omega arith))) (up_tight hp hq)

module _ {p q : ℕ} (hp : Inside p) (hq : Inside q) where
  pub ln_ordered : Ordered (ln_ends p q)
  ln_ordered = (ln_tight hp hq).ordered

  pub ln_narrow : {n : ℕ} → 11 ≤ n → Narrow (ln_ends p q) n
  ln_narrow l = record { narrow = omega (arith, (ln_tight hp hq).narrow.narrow) }
