-- Roots, logarithms and exponentials at numbers, and π.
use Prim.Native.Nat.{ℕ, suc, ◌*◌, ◌^◌, ◌≤◌}
use mathlib.Core.{Path.{refl}, Bool.{Bool, ◌&&◌}}
use native.Mathlib.Decide.{dec_le}
use lib.Dec.{T, leb, leb→le, lit≤}
use mir.Facts.{and_yes}
use Rattle.interval.specs.Operations.{natural}
use Rattle.exact.specs.Fraction.{Fraction, ◌≤f◌, ◌<f◌, whole, decimal, ◌+f◌, neg, ◌−f◌, ◌·f◌, inv, ◌÷f◌, top, powf, sum_of, dec_lef, choose}
use Rattle.exact.specs.{Fraction.{minf, maxf}, Ends.{Ends, least, greatest, combine, ◌+e◌, ◌−e◌, ◌·e◌, ◌÷e◌, minus_ends}}
use Rattle.exact.specs.{Exact.{Exact, exactly, ◌+x◌, ◌·x◌, minus}, Root.{root}, Logarithm.{argument, term, terms, tail, ln_near, ln_of, ln}}
use Rattle.exact.specs.{Exponential.{factorial, exp_term, exp_terms, power_ends, exp}, Pi.{π}, Reported.{ten, over, reported}}
use Rattle.exact.{specs.Depth.{work_depth, Consistent, Within, Proper, Positive}, proofs.Order.{trans≤, lt_of_lt_of_le, le_of_lt, whole_pos}}
use Rattle.exact.proofs.{Products.{mul_nonneg}, Quotients.{inv_nonneg}, Series.{pow≤}, Inclusion.{within_refl, within_trans, proper_within}}
use Rattle.exact.proofs.{Consistency.{consistent_minus, proper_at}, Growing.{Growing, extended, within_parts}}
use Rattle.exact.proofs.{Roots.{growing_root, root_within}, Logarithm.{growing_ln, within_ln_up, within_ln_down}}
use Rattle.exact.proofs.{Doublings.{doublings_least, halved}, ExpUp.{slack, slack_positive}, Exponential.{consistent_exp, exp_minus_within}}
use Rattle.exact.proofs.{Pi.{consistent_π}, Computed.{within_π}}
use Rattle.formulas.proofs.Known.{Known, digits, at_most, less_than, inside, positive, at_most_lem, less_than_lem, inside_within, is_positive}

-- ---- roots and logarithms, which grow with their argument

proper_extended : {may : Fraction → Type 0} {f : Fraction → Exact} → Growing may f → (x : Exact) → may (x work_depth).lower
    → Proper (x work_depth) → Proper (extended f x work_depth)
proper_extended g x m p =
    record {
      proper =
          trans≤ (g.rises m p.proper work_depth).lowers
          ((g.agree (g.onward m p.proper)).agree work_depth work_depth (lit≤ tt) (lit≤ tt));
    }

-- the root's digits are given: a count down to them would take too long
unfoldable pub root_test : ℕ → Ends → ℕ → ℕ → Bool
root_test n A lo hi =
    leb 1 n && (leb (lo ^ n * A.lower.den) ((10 ^ 12) ^ n * top A.lower) && leb (suc ((10 ^ 12) ^ n * top A.upper))
    (hi ^ n * A.upper.den))

pub known_root : (n : ℕ) (lo hi : ℕ) {x : Exact} {A : Ends} → Known x A → T (root_test n A lo hi) → Known (root n x) (digits 12 lo hi)
unfolding root_test root ten natural
known_root n lo hi {x} {A} a t =
    let h = and_yes (leb 1 n) _ t in
    let k = and_yes (leb (lo ^ n * A.lower.den) ((10 ^ 12) ^ n * top A.lower)) _ h.1 in
    let hn : 1 ≤ n = leb→le _ _ h.0 in
    record {
      proper = proper_extended (growing_root n hn) x tt a.proper;
      within = root_within n (ten 12) lo hi {A = A} hn (leb→le _ _ k.0) x 12 1 refl (leb→le _ _ k.1) a.within;
    }

-- q is from 1 up and has m halvings
unfoldable pub halved_by : ℕ → Fraction → Bool
halved_by m q = at_most (whole 1) q && (leb (2 ^ m * q.den) (top q) && leb (suc (top q)) (2 ^ suc m * q.den))

-- ln q by its halvings
unfoldable pub ln_by : ℕ → Fraction → Ends
ln_by m q =
    let halvings : Ends = record { lower = whole m; upper = whole m } in
    halvings ·e ln_near (whole 2) work_depth +e ln_near (q ÷f whole (2 ^ m)) work_depth

module _ (m : ℕ) (q : Fraction) (t : T (halved_by m q)) where
  from_one : whole 1 ≤f q
  unfolding halved_by
  from_one = at_most_lem (whole 1) q (and_yes (at_most (whole 1) q) _ t).0

  ln_by_lem : Within (ln_of q work_depth) (ln_by m q)
  unfolding halved_by ln_by exactly ◌·x◌ ◌+x◌
  ln_by_lem =
      let k = and_yes (leb (2 ^ m * q.den) (top q)) _ (and_yes (at_most (whole 1) q) _ t).1 in
      within_ln_up m work_depth from_one (leb→le _ _ k.0) (leb→le _ _ k.1) (within_refl (ln_by m q))

known_ln : {x : Exact} {A B C : Ends} (D : Ends) → Known x A → Positive A → Within (ln_of A.lower work_depth) B
    → Within (ln_of A.upper work_depth) C → T (inside (record { lower = B.lower; upper = C.upper }) D) → Known (ln x) D
unfolding ln
known_ln {x} {B = B} {C} D a p b c t =
    record {
      proper = proper_extended growing_ln x (lt_of_lt_of_le p.positive a.within.low) a.proper;
      within = within_trans (within_parts growing_ln x work_depth p.positive a.proper a.within b c) (inside_within _ D t);
    }

-- of a pair from 1 up
unfoldable pub ln_test : ℕ → Ends → Ends → Bool
ln_test m A D =
    halved_by m A.lower && (halved_by m A.upper && inside
    (record { lower = (ln_by m A.lower).lower; upper = (ln_by m A.upper).upper }) D)

pub known_ln_up : {x : Exact} {A : Ends} (m : ℕ) (D : Ends) → Known x A → T (ln_test m A D) → Known (ln x) D
unfolding ln_test
known_ln_up {A = A} m D a t =
    let h = and_yes (halved_by m A.lower) _ t in
    let k = and_yes (halved_by m A.upper) _ h.1 in
    known_ln D a (record { positive = lt_of_lt_of_le (whole_pos (lit≤ tt)) (from_one m A.lower h.0) }) (ln_by_lem m A.lower h.0)
    (ln_by_lem m A.upper k.0) k.1

-- of a positive pair below 1, by one over it
unfoldable pub ln_down_test : ℕ → Ends → Ends → Bool
ln_down_test m A D =
    positive A
    && (less_than A.lower (whole 1)
    && (less_than A.upper (whole 1)
    && (halved_by m (inv A.lower)
    && (halved_by m (inv A.upper)
    && inside (record { lower = (minus_ends (ln_by m (inv A.lower))).lower; upper = (minus_ends (ln_by m (inv A.upper))).upper }) D))))

pub known_ln_down : {x : Exact} {A : Ends} (m : ℕ) (D : Ends) → Known x A → T (ln_down_test m A D) → Known (ln x) D
unfolding ln_down_test
known_ln_down {A = A} m D a t =
    let h = and_yes (positive A) _ t in
    let l = and_yes (less_than A.lower (whole 1)) _ h.1 in
    let u = and_yes (less_than A.upper (whole 1)) _ l.1 in
    let hl = and_yes (halved_by m (inv A.lower)) _ u.1 in
    let hu = and_yes (halved_by m (inv A.upper)) _ hl.1 in
    let p = is_positive A h.0 in
    let q : whole 0 <f A.upper = lt_of_lt_of_le p.positive (proper_within a.proper a.within).proper in
    known_ln D a p (within_ln_down work_depth p.positive (less_than_lem _ _ l.0) (ln_by_lem m (inv A.lower) hl.0))
    (within_ln_down work_depth q (less_than_lem _ _ u.0) (ln_by_lem m (inv A.upper) hu.0)) hu.1

-- ---- e to the power of minus a positive value, by m halvings

-- the 2^m-th root of e^−x, by the series
unfoldable pub exp_root : ℕ → Ends → Ends
exp_root m A =
    record {
      lower = inv (slack work_depth ·f exp_terms (halved m A.upper) work_depth);
      upper = slack work_depth ·f inv (exp_terms (halved m A.lower) work_depth);
    }

-- C is around that root, and D around its power
unfoldable pub exp_test : ℕ → Ends → Ends → Ends → Bool
exp_test m A C D =
    positive A
    && (leb (2 * top A.upper) (2 ^ m * A.upper.den) && (positive C && (inside (exp_root m A) C && inside (power_ends C (2 ^ m)) D)))

root_nonneg : (m : ℕ) (A : Ends) → whole 0 ≤f (exp_root m A).upper
unfolding exp_root
root_nonneg m A = mul_nonneg (le_of_lt (slack_positive work_depth)) (inv_nonneg _)

power_within : {A B : Ends} (n : ℕ) → Positive B → whole 0 ≤f A.upper → Within A B → Within (power_ends A n) (power_ends B n)
unfolding power_ends
power_within n p h w = record { low = pow≤ (le_of_lt p.positive) w.low n; high = pow≤ h w.high n }

pub known_exp_minus : {x : Exact} {A : Ends} (m : ℕ) (C D : Ends) → Consistent x → Known x A → T (exp_test m A C D) → Known (exp (minus x)) D
unfolding exp_test exp_root power_ends
known_exp_minus {A = A} m C D c a t =
    let h = and_yes (positive A) _ t in
    let k = and_yes (leb (2 * top A.upper) (2 ^ m * A.upper.den)) _ h.1 in
    let p = and_yes (positive C) _ k.1 in
    let q = and_yes (inside (exp_root m A) C) _ p.1 in
    let w : Within (exp (minus _) work_depth) (power_ends (exp_root m A) (2 ^ m)) =
    exp_minus_within m (is_positive A h.0) c (lit≤ tt) a.within (doublings_least A.upper m (leb→le _ _ k.0)) in
    record {
      proper = proper_at (consistent_exp (consistent_minus c)) (lit≤ tt);
      within =
          within_trans w
          (within_trans (power_within (2 ^ m) (is_positive C p.0) (root_nonneg m A) (inside_within (exp_root m A) C q.0))
          (inside_within (power_ends C (2 ^ m)) D q.1));
    }

pub known_π : Known π (digits 15 3141592653589793 3141592653589794)
unfolding natural
known_π = record { proper = proper_at consistent_π (lit≤ tt); within = within_π }

-- what the tests are made of, opened by name
unfoldable pub tests : ℕ
unfolding at_most less_than inside positive root_test halved_by ln_by ln_test ln_down_test exp_root power_ends exp_test slack whole decimal neg ◌+f◌
    ◌−f◌ ◌·f◌ inv ◌÷f◌ top powf sum_of dec_lef dec_le choose minf maxf least greatest combine ◌+e◌ ◌−e◌ ◌·e◌ ◌÷e◌ minus_ends ln_near argument
    terms term tail factorial exp_term exp_terms natural reported over ten
tests = 0
