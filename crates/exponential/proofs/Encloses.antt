-- The ends of e^−q enclose the exact ones at the depth at which the code computes.
use Prim.Native.Nat.{ℕ, ◌+◌, ◌*◌, ◌/◌, ◌^◌, ◌≤◌, ◌<◌, min}
use mathlib.Core.Path.{refl}
use native.Mathlib.{Omega.{arith}, Nat.{add-zero, le_refl, le_trans, min-eq_left, min-eq_right}, Decide.{dec_le}}
use lib.Dec.{lit<, lit≤}
use Rattle.interval.specs.{declared.Interval.{Interval}, Operations.{natural}, Span.{Span}}
use Rattle.exact.specs.{Fraction.{Fraction, ◌≤f◌, ◌<f◌, whole, ◌+f◌, ◌·f◌, inv, ◌÷f◌, powf, sum_of}, Exact.{Exact, minus}}
use Rattle.exact.specs.{Exponential.{factorial, exp_term, exp_terms, small, exp}, Reported.{ten, over, reported}}
use Rattle.exact.{specs.Depth.{work_depth, Consistent}, proofs.{Order.{refl≤, trans≤, le_of_lt}, Sums.{mono+}}}
use Rattle.exact.proofs.{Products.{mul_left≤, mul_nonneg, mul-pos, add_mul, one-mul}, Quotients.{inv≤, inv_nonneg}}
use Rattle.exact.proofs.{Inclusion.{within_trans}, ExpTerms.{half, rest_nonneg, exp_terms≤, exp_terms_least}}
use Rattle.exact.proofs.{Doublings.{halved, halved_nonneg, small_high}, ExpUp.{slack, slack_positive, half_nonneg, terms_positive}}
use Rattle.exact.proofs.{Exponential.{inverse_high, exp_minus_within}, Series.{pow_nonneg}}
use Rattle.exact.proofs.Rounding.{from_below, from_above, units_nonneg, units_zero, units_sum}
use Rattle.enclosure.specs.Enclosure.{Encloses}
use Rattle.exponential.specs.Ends.{billion, unit, most, large, levels, halvings_of, argument_of, nested_of, series_of, inverse_of}
use Rattle.exponential.specs.Ends.{squared_of, end_of, gap_of, pair_of, near_ends, exp_ends, exp_pair, close_ends, close_pair}
use Rattle.exponential.proofs.Rounded.{parts, parts≤, quarters, fine, fine≤, quarters_toward, argument_toward, terms_toward}
use Rattle.exponential.proofs.Rounded.{inverse_below, inverse_above, squared_toward}
use Rattle.exponential.proofs.{Sizes.{halvings_few}, Loops.{by_test}, Width.{end_less, end_close}}

parts_pos : {s : ℕ} → 0 < s → whole 0 <f parts s
unfolding over ten whole
parts_pos h = omega arith

fine_pos : {s : ℕ} → 0 < s → whole 0 <f fine s
unfolding over quarters whole
fine_pos h = omega arith

-- ---- twelve terms and a unit are above (1 + ε) times twelve terms

rest_small : (whole 2 ·f exp_term half work_depth) ·f exp_terms half work_depth ≤f fine 1
unfolding exp_term exp_terms sum_of factorial powf over quarters whole ◌+f◌ ◌·f◌ inv ◌÷f◌
rest_small = record { le = lit≤ tt }

slack_unit : {x : Fraction} → whole 0 ≤f x → x ≤f half → slack work_depth ·f exp_terms x work_depth ≤f exp_terms x work_depth +f fine 1
unfolding slack
slack_unit {x} nx l =
    trans≤ (add_mul (whole 1) _ (exp_terms x work_depth)).to
    (mono+ (one-mul _).to (trans≤ (mul_left≤ (rest_nonneg half_nonneg work_depth) (exp_terms≤ nx l work_depth)) rest_small))

-- and one over twelve terms and a unit above (1 + ε) times that
inverse_unit : {t : Fraction} → whole 1 ≤f t → slack work_depth ·f inv t ≤f inv t +f fine 1
unfolding slack
inverse_unit {t} l =
    let r = rest_nonneg half_nonneg work_depth in
    trans≤ (add_mul (whole 1) _ (inv t)).to
    (mono+ (one-mul _).to (trans≤ (mul_left≤ r (trans≤ (inverse_high l) (exp_terms_least half_nonneg (lit≤ tt)))) rest_small))

-- ---- the ends, by j halvings

module _ (j q : ℕ) where
  abbrev x : Fraction
  x = halved j (parts q)

  nx : whole 0 ≤f x
  nx = halved_nonneg j (units_nonneg (ten 9) q)

  series_pos : (up y : ℕ) → 0 < series_of up y
  unfolding series_of nested_of
  series_pos up y = omega arith

  -- rounded up, with a unit more
  series_high : x ≤f half → slack work_depth ·f exp_terms x work_depth ≤f fine (series_of 1 (argument_of 1 j q))
  unfolding series_of argument_of
  series_high l =
      let y = 4 * q / 2 ^ j + 1 in
      let n = nested_of 1 y 0 levels in
      let m : n + 1 ≤ series_of 1 y = omega arith in
      trans≤ (slack_unit nx l)
      (trans≤ (mono+ ((terms_toward nx y (argument_toward 1 q j)).upward (lit< tt)) (refl≤ _))
      (trans≤ (units_sum quarters n 1).fro (fine≤ m)))

  series_low : fine (series_of 0 (argument_of 0 j q)) ≤f exp_terms x work_depth
  unfolding series_of argument_of
  series_low =
      let y = 4 * q / 2 ^ j + 0 in
      rw (add-zero (nested_of 0 y 0 levels)) ((terms_toward nx y (argument_toward 0 q j)).down refl)

  end_below : x ≤f half → fine (end_of 0 1 j q) ≤f powf (inv (slack work_depth ·f exp_terms x work_depth)) (2 ^ j)
  unfolding end_of
  end_below l =
      let p = mul-pos (slack_positive work_depth) (terms_positive nx (lit≤ tt)) in
      (squared_toward _ (inv_nonneg _) (from_below (trans≤ (inverse_below (series_pos 1 _)) (inv≤ p (series_high l)))) j).down refl

  end_above : powf (slack work_depth ·f inv (exp_terms x work_depth)) (2 ^ j) ≤f fine (end_of 1 0 j q)
  unfolding end_of
  end_above =
      let s = series_pos 0 (argument_of 0 j q) in
      let v =
      trans≤ (inverse_unit (exp_terms_least nx (lit≤ tt)))
      (trans≤ (mono+ (inv≤ (fine_pos s) series_low) (refl≤ _)) (inverse_above _ s)) in
      (squared_toward _ (mul_nonneg (le_of_lt (slack_positive work_depth)) (inv_nonneg _)) (from_above v) j).upward (lit< tt)

-- ---- the pair

-- the upper end: l and g together hold u, which is below 1
pair_above : {u : ℕ} (l g : ℕ) → u < unit → u ≤ l + g → fine u ≤f parts (min ((l + g) / 4 + 1) billion)
unfolding over quarters ten
pair_above {u} l g h k = go (dec_le ((l + g) / 4 + 1) billion)
  where
    go : Dec ((l + g) / 4 + 1 ≤ billion) → fine u ≤f parts (min ((l + g) / 4 + 1) billion)
    go (yes p) = rw (min-eq_left p) (omega (arith, k))
    go (no p) = let m : billion ≤ (l + g) / 4 + 1 = omega arith in rw (min-eq_right m) (omega (arith, h))

module _ {x : Exact} (a b : ℕ) (some : 1 ≤ a) (c : Consistent x) where
  -- an upper end at or above the one by the terms
  terms_enclose : (u : ℕ) → fine (end_of 1 0 (halvings_of b) a) ≤f parts u → Encloses x (ten 9) (natural a b)
      → Encloses (exp (minus x)) (ten 9) (natural (end_of 0 1 (halvings_of b) b / 4) u)
  unfolding reported natural halvings_of small
  terms_enclose u h e =
      let j = halvings_of b in
      record {
        within =
            within_trans
            (exp_minus_within {A = reported (ten 9) (natural a b)} j (record { positive = parts_pos some }) c (lit≤ tt) e.within
            (le_refl j))
            (record {
              low = trans≤ (rw add-zero at ((quarters_toward 0 (end_of 0 1 j b)).down refl)) (end_below j b (small_high (parts b)));
              high = trans≤ (end_above j a) h;
            });
      }

  pub close_encloses : Encloses x (ten 9) (natural a b) → Encloses (exp (minus x)) (ten 9) (close_ends a b)
  unfolding close_ends
  close_encloses e = terms_enclose _ ((quarters_toward 1 (end_of 1 0 (halvings_of b) a)).upward (lit< tt)) e

module _ {x : Exact} {a b : ℕ} (low : 65536 ≤ a) (l : a ≤ b) (high : b ≤ most) (near : b ≤ a + 1000) (c : Consistent x) where
  -- below 22
  near_encloses : Encloses x (ten 9) (natural a b) → Encloses (exp (minus x)) (ten 9) (near_ends a b)
  unfolding near_ends pair_of
  near_encloses e =
      let j = halvings_of b in
      terms_enclose a b (omega (arith, low)) c _
      (pair_above (end_of 0 1 j b) (gap_of j a b) (end_less low l high) (end_close low l high near)) e

  -- from 22 on
  large_power : fine (end_of 1 0 14 large) ≤f parts 1
  unfolding end_of squared_of inverse_of series_of nested_of argument_of over quarters ten
  large_power = record { le = lit≤ tt }

  far_encloses : large ≤ a → Encloses x (ten 9) (natural a b) → Encloses (exp (minus x)) (ten 9) (natural 0 1)
  unfolding reported natural halvings_of
  far_encloses far e =
      record {
        within =
            within_trans
            (exp_minus_within {A = reported (ten 9) (natural large b)} 14 (record { positive = parts_pos (lit< tt) }) c (lit≤ tt)
            (within_trans e.within (record { low = parts≤ far; high = refl≤ _ })) (halvings_few high))
            (record {
              low = trans≤ (units_zero (ten 9)).to (pow_nonneg (inv_nonneg _) (2 ^ 14));
              high = trans≤ (end_above 14 large) large_power;
            });
      }

  pub exp_encloses : Encloses x (ten 9) (natural a b) → Encloses (exp (minus x)) (ten 9) (exp_ends a b)
  unfolding exp_ends
  exp_encloses e = by_test (λ i. Encloses (exp (minus x)) (ten 9) i) a large (λ h. near_encloses e) (λ h. far_encloses h e)

-- the same by a pair of exponents
pub power_encloses : {x : Exact} {i : Interval} {l h w : ℕ} → 65536 ≤ l → h ≤ most → w ≤ 1000 → Consistent x → Span i l h w
    → Encloses x (ten 9) i → Encloses (exp (minus x)) (ten 9) (exp_pair i)
unfolding exp_pair natural
power_encloses p m n c s e =
    rw s.is
    (exp_encloses (le_trans p s.from) s.order (le_trans s.to m) (omega (arith, s.near, n)) c (rw s.is at e))

pub close_power_encloses : {x : Exact} {i : Interval} {l h w : ℕ} → 1 ≤ l → Consistent x → Span i l h w → Encloses x (ten 9) i
    → Encloses (exp (minus x)) (ten 9) (close_pair i)
unfolding close_pair natural
close_power_encloses p c s e = rw s.is (close_encloses s.a s.b (le_trans p s.from) c (rw s.is at e))
