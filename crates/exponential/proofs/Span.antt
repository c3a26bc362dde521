-- The ends of e^−q for q from a to b as callers use them: natural, in order, at most 1, and close.
use Prim.Native.Nat.{ℕ, ◌+◌, ◌-◌, ◌*◌, ◌/◌, ◌^◌, ◌≤◌, ◌<◌, min}
use mathlib.Core.Path.{◌≡◌, refl}
use native.Mathlib.{Omega.{arith}, Nat.{le_trans, min-le_left, min-le_right, le-min, pow-le-pow_right}}
use borrow.Author.Tests.{lt-ltb}
use lib.{Dec.{lit≤}, Pow.{pow_pos}}
use Rattle.whole.proofs.Signed.{le_halves}
use Rattle.interval.{specs.{Operations.{natural}, Span.{Span}}, proofs.Span.{span_natural, span_wider}}
use Rattle.exact.{specs.{Exact.{exactly}, Reported.{ten}}, proofs.{Order.{refl≤}, Consistency.{consistent_exactly, consistent_minus}}}
use Rattle.exact.proofs.Exponential.{consistent_exp}
use Rattle.enclosure.{specs.Enclosure.{Encloses}, proofs.Basics.{encloses_exactly, encloses_ordered}}
use Rattle.exponential.specs.Ends.{billion, unit, large, halvings_of, argument_of, inverse_of, end_of, error_of, gap_of, pair_of}
use Rattle.exponential.specs.Ends.{most, near_ends, exp_ends, close_ends}
use Rattle.exponential.proofs.{Sizes.{series_least, inverse_most, squared_below}, Loops.{by_test}, Rounded.{parts, parts≤}}
use Rattle.exponential.proofs.{Encloses.{close_encloses}, Width.{end_less, end_close}}

pub end_most : (j q : ℕ) → end_of 0 1 j q ≤ unit
unfolding end_of inverse_of
end_most j q = squared_below (omega (arith, inverse_most (series_least 1 (argument_of 1 j q)))) j

pair_span : {l : ℕ} (g : ℕ) → l ≤ unit → Span (pair_of l g) 0 billion ((g + 3) / 4 + 1)
unfolding pair_of
pair_span {l} g h =
    let u = (l + g) / 4 + 1 in
    record {
      a = l / 4;
      b = min u billion;
      is = refl;
      from = omega arith;
      order = le-min (omega arith) (omega arith);
      to = min-le_right u billion;
      near = le_trans (min-le_left u billion) (omega arith);
    }

near_span : (a b : ℕ) → Span (near_ends a b) 0 billion (b - a + 3 * 2 ^ halvings_of b + 1)
unfolding near_ends gap_of error_of
near_span a b =
    let j = halvings_of b in
    let m : 2 ^ min j 2 ≤ 2 ^ j = pow-le-pow_right (lit≤ tt) (min-le_left j 2) in
    span_wider (pair_span (4 * (b - a) + (12 * 2 ^ min j 2 - 2)) (end_most j b)) (lit≤ tt) (lit≤ tt) (omega (arith, m))

-- below 22
pub exp_near_lem : (a b : ℕ) → a < large → exp_ends a b ≡ near_ends a b
unfolding exp_ends
exp_near_lem a b h = rw (lt-ltb a large h)

-- as far apart as the exponents, 3 for each of 2^j parts, and 1
pub exp_span : (a b : ℕ) → Span (exp_ends a b) 0 billion (b - a + 3 * 2 ^ halvings_of b + 1)
unfolding exp_ends
exp_span a b =
    by_test (λ i. Span i 0 billion (b - a + 3 * 2 ^ halvings_of b + 1)) a large
    (λ h. near_span a b)
    (λ h. span_natural 0 1 (lit≤ tt) (lit≤ tt) (lit≤ tt) (omega (arith, pow_pos (halvings_of b))))

-- ---- both ends by the terms

-- in order, since they enclose e^−a
close_ordered : (a b : ℕ) → 1 ≤ a → a ≤ b → end_of 0 1 (halvings_of b) b / 4 ≤ end_of 1 0 (halvings_of b) a / 4 + 1
unfolding close_ends natural
close_ordered a b h l =
    let c = consistent_exactly (parts a) in
    let e : Encloses (exactly (parts a)) (ten 9) (natural a b) = encloses_exactly (refl≤ (parts a)) (parts≤ l) in
    omega (arith, le_halves (encloses_ordered (consistent_exp (consistent_minus c)) (close_encloses a b h c e)))

pub close_span : {a b : ℕ} → 65536 ≤ a → a ≤ b → b ≤ most → b ≤ a + 1000
    → Span (close_ends a b) 0 billion (b - a + 3 * 2 ^ halvings_of b + 1)
unfolding close_ends gap_of error_of
close_span {a} {b} low l high near =
    let j = halvings_of b in
    let m : 2 ^ min j 2 ≤ 2 ^ j = pow-le-pow_right (lit≤ tt) (min-le_left j 2) in
    span_natural _ _ (omega arith) (close_ordered a b (omega arith) l) (omega (arith, end_less low l high))
    (omega (arith, end_close low l high near, m))
