-- The ends of the decrement factor include the exact value's ends. Each line follows its formula's line; of 2tf/Ta and Ta/tf first the two
-- divisions are made one.
use Prim.Native.Nat.{ℕ, ◌+◌, ◌*◌, ◌/◌, ◌^◌, ◌≤◌, ◌<◌}
use mathlib.Core.Path.{refl, ap}
use native.Mathlib.{Omega.{arith}, Nat.{le_trans}}
use lib.{Dec.{lit≤}, IntN.{pos, nat_abs}}
use Rattle.whole.{specs.Whole.{ceil_div}, proofs.Rounding.{floor_div_below, ceil_div_above}}
use Rattle.interval.specs.{declared.Interval.{Interval}, Operations.{natural, outward_of, scaled_of, product_of}, Span.{Span}}
use Rattle.interval.proofs.{Natural.{natural_scaled, natural_outward}, Span.{span_divisor}}
use Rattle.exact.specs.{Fraction.{Fraction, ◌≤f◌, ◌<f◌, ◌≈f◌, whole, decimal, ◌·f◌, inv, ◌÷f◌}, Exact.{Exact, exactly, ◌·x◌, ◌÷x◌}, Pi.{π}}
use Rattle.exact.specs.{Root.{root}, Depth.{work_depth, Proper, SameEnds}, Reported.{ten, over}}
use Rattle.exact.proofs.{Order.{le_of_lt, refl≈, sym≈, trans≈, nonneg}, Powers.{square}}
use Rattle.exact.proofs.Products.{mul_comm, mul_assoc, mul_one, mul_nonneg, mul-pos, cong·}
use Rattle.exact.proofs.{Quotients.{clamped, inv_pos, inv_nonneg, mul_inv, split_inv}, Divisors.{inv_cong, cong÷, expand}}
use Rattle.exact.proofs.{Consistency.{proper_at, consistent_exactly}, Positive.{positive_upper}}
use Rattle.exact.proofs.{KnownEnds.{same_refl, same_sym, same_trans, quotient_ends_lem, scaled_ends_lem}, Fractions.{exactly_same, exactly_product}}
use Rattle.exact.proofs.{Alike.{product_same, quotient_product}, Factors.{product_turned, product_grouped, factors_exchanged}}
use Rattle.exact.proofs.Quantity.{Quantity, quantity_exactly, quantity_quotient, quantity_π}
use Rattle.enclosure.{specs.{Enclosure.{Encloses}, SquareRoot.{square_root}, Pi.{π_below, π_above, π_ends}}, proofs.SquareRoot.{square_root_lem}}
use Rattle.enclosure.proofs.{Basics.{encloses_same, encloses_whole}, Sums.{encloses_sum, encloses_difference}, Products.{encloses_product}}
use Rattle.enclosure.proofs.{Quotients.{encloses_quotient}, Multiples.{encloses_rounded}, Roots.{encloses_root}, Constants.{π_encloses}}
use Rattle.exponential.{specs.Ends.{most}, proofs.Encloses.{power_encloses}}
use Rattle.case.specs.{declared.Case.{Case}, Bounds.{Bounds}}
use Rattle.formulas.specs.Decrement.{Ta, tf, Df}
use Rattle.formulas.proofs.Decrement.{exponent, ratio, rest, offset, under_root, two_pos, xr_pos, tf_pos, twice_pos, quantity_turns}
use Rattle.formulas.proofs.Decrement.{quantity-Ta, quantity_ratio, quantity_exponent, consistent_power, consistent_rest, consistent_offset}
use Rattle.formulas.proofs.Quantities.{one}
use Rattle.decrement.specs.Ends.{exponent_ends, ratio_ends, rest_ends, square_ends, df_ends}

-- ---- a divisor that is itself a quotient

divide_pos : {p : Fraction} (q : Fraction) → whole 0 <f p → whole 0 <f p ÷f q
unfolding ◌÷f◌
divide_pos q h = mul-pos h (inv_pos q)

-- q/y times y
undone : (q : Fraction) {y : Fraction} → whole 0 <f y → q ÷f y ·f y ≈f q
unfolding ◌÷f◌
undone q {y} h = trans≈ (mul_assoc q (inv y) y) (trans≈ (cong· (refl≈ q) (trans≈ (mul_comm (inv y) y) (mul_inv h))) (mul_one q))

-- p/(q/y) is (p/q) y
double_divided : (p : Fraction) {q y : Fraction} → whole 0 <f q → whole 0 <f y → p ÷f (q ÷f y) ≈f (p ÷f q) ·f y
unfolding ◌÷f◌
double_divided p {q} {y} hq hy =
    trans≈ (expand p (divide_pos y hq) hy (undone q hy))
    (trans≈ (mul_assoc p y (inv q)) (trans≈ (cong· (refl≈ p) (mul_comm y (inv q))) (sym≈ (mul_assoc p (inv q) y))))

module _ {p q : Fraction} {y : Exact} (hp : whole 0 <f p) (hq : whole 0 <f q) (Y : Quantity y) {k : ℕ} (d : 3 ≤ k) where
  double_divided_ends : SameEnds ((exactly p ÷x (exactly q ÷x y)) k) ((exactly (p ÷f q) ·x y) k)
  unfolding ◌÷x◌ ◌·x◌ exactly
  double_divided_ends =
      let P = quantity_exactly hp in
      let Q = quantity_exactly hq in
      let G = quantity_quotient Q Y in
      let proper = proper_at Y.consistent d in
      let positive = Y.positive.at k d in
      let pg = proper_at G.consistent d in
      let gp = G.positive.at k d in
      let outer = quotient_ends_lem (proper_at P.consistent d) pg (le_of_lt hp) gp in
      let inner = quotient_ends_lem (proper_at Q.consistent d) proper (le_of_lt hq) positive in
      same_trans outer
      (same_trans
      (record {
        lowers = trans≈ (cong÷ (positive_upper pg gp) (refl≈ p) inner.uppers) (double_divided p hq positive.positive);
        uppers = trans≈ (cong÷ gp.positive (refl≈ p) inner.lowers) (double_divided p hq (positive_upper proper positive));
      })
      (same_sym (scaled_ends_lem k (le_of_lt (divide_pos q hp)) proper)))

-- ---- p/q of π

proper_exactly : (q : Fraction) → Proper (exactly q work_depth)
proper_exactly q = proper_at (consistent_exactly q) (lit≤ tt)

proper_π : Proper (π work_depth)
proper_π = proper_at quantity_π.consistent (lit≤ tt)

-- p/q of x against X and Y, in billionths
module _ (p q x : ℕ) (h : 0 < q) where
  share_low : (X : ℕ) → X * q ≤ x * p → over (pos X) (ten 9) ≤f (whole p ÷f whole q) ·f over (pos x) (ten 9)
  unfolding whole over ten inv ◌÷f◌ ◌·f◌
  share_low X k = record { le = omega (arith, ap (λ t. X * t) (clamped h), k) }

  share_high : (Y : ℕ) → x * p ≤ Y * q → (whole p ÷f whole q) ·f over (pos x) (ten 9) ≤f over (pos Y) (ten 9)
  unfolding whole over ten inv ◌÷f◌ ◌·f◌
  share_high Y k = record { le = omega (arith, ap (λ t. Y * t) (clamped h), k) }

share_nonneg : (p q : ℕ) → whole 0 ≤f whole p ÷f whole q
unfolding ◌÷f◌
share_nonneg p q = mul_nonneg (nonneg p) (inv_nonneg (whole q))

share_encloses : (p q : ℕ) → 0 < q → Encloses (exactly (whole p ÷f whole q) ·x π) (ten 9) (outward_of (scaled_of π_ends p) q)
unfolding π_ends natural
share_encloses p q h =
    rw (natural_scaled π_below π_above p, natural_outward (π_below * p) (π_above * p) h)
    (encloses_rounded (whole p ÷f whole q) (share_nonneg p q)
    (share_low p q π_below h (π_below * p / q) (floor_div_below (π_below * p) q))
    (share_high p q π_above h (ceil_div (π_above * p) q) (ceil_div_above (π_above * p) h))
    quantity_π.consistent π_encloses)

-- ---- a root by a pair

root_encloses : {x : Exact} {i : Interval} {l h w : ℕ} → Span i l h w → Encloses x (ten 9) i
    → Encloses (root 2 x) (ten 9) (natural (square_root (nat_abs i.lower * 10 ^ 9)) (square_root (nat_abs i.upper * 10 ^ 9) + 1))
unfolding natural ten
root_encloses s e =
    let x = s.a in
    let y = s.b in
    rw s.is
    (encloses_root 2 (ten 9) {v = ten 9} x y (square_root (x * 10 ^ 9)) (square_root (y * 10 ^ 9) + 1) 1000 (lit≤ tt) refl
    (rw (square (square_root (x * 10 ^ 9)), square (10 ^ 9)) (omega (arith, (square_root_lem (x * 10 ^ 9)).low)))
    (rw (square (square_root (y * 10 ^ 9) + 1), square (10 ^ 9)) (omega (arith, (square_root_lem (y * 10 ^ 9)).high)))
    (rw s.is at e))

module _ {c : Case} (b : Bounds c) where
  -- ---- 2tf/Ta is (4·hz·clear/(1000·xr))·π

  over_pos : 0 < 1000 * c.xr
  over_pos = omega (arith, b.xr.low)

  factor_is : (whole 2 ·f tf c) ÷f whole c.xr ·f (whole 2 ·f whole c.hz) ≈f whole (4 * c.hz * c.clear) ÷f whole (1000 * c.xr)
  unfolding tf decimal whole inv ◌÷f◌ ◌·f◌
  factor_is =
      let e = ap (λ t. c.hz * c.clear * t) (clamped b.xr.low) in
      let f = ap (λ t. c.hz * c.clear * t) (clamped over_pos) in
      record { to = record { le = omega (arith, e, f) }; fro = record { le = omega (arith, e, f) } }

  turns_same : SameEnds ((exactly (whole 2) ·x π ·x exactly (whole c.hz)) work_depth)
      ((exactly (whole 2 ·f whole c.hz) ·x π) work_depth)
  unfolding ◌·x◌
  turns_same =
      same_trans (factors_exchanged (proper_exactly (whole 2)) proper_π (proper_exactly (whole c.hz)))
      (product_same (exactly_product (whole 2) (whole c.hz) work_depth) (same_refl (π work_depth)))

  exponent_same : SameEnds (exponent c work_depth) ((exactly (whole (4 * c.hz * c.clear) ÷f whole (1000 * c.xr)) ·x π) work_depth)
  unfolding Ta ◌·x◌
  exponent_same =
      let p = (whole 2 ·f tf c) ÷f whole c.xr in
      let d = whole 2 ·f whole c.hz in
      same_trans (double_divided_ends (twice_pos b) (xr_pos b) (quantity_turns b) (lit≤ tt))
      (same_trans (product_same (same_refl (exactly p work_depth)) turns_same)
      (same_trans (same_sym (product_grouped (proper_exactly p) (proper_exactly d) proper_π))
      (product_same (same_trans (exactly_product p d work_depth) (exactly_same factor_is work_depth)) (same_refl (π work_depth)))))

  pub exponent_encloses : Encloses (exponent c) (ten 9) (exponent_ends c)
  unfolding exponent_ends
  exponent_encloses = encloses_same exponent_same (share_encloses (4 * c.hz * c.clear) (1000 * c.xr) over_pos)

  -- ---- Ta/tf is 2/(2tf/Ta)

  inverse_is : inv (tf c) ≈f whole 2 ÷f (whole 2 ·f tf c)
  unfolding ◌÷f◌
  inverse_is =
      let t = tf c in
      trans≈ (sym≈ (split_inv (tf_pos b) two_pos)) (cong· (refl≈ (whole 2)) (inv_cong (mul-pos (tf_pos b) two_pos) (mul_comm t (whole 2))))

  ratio_same : SameEnds (ratio c work_depth) ((exactly (whole 2) ÷x exponent c) work_depth)
  unfolding ◌÷x◌ ◌·x◌ exactly
  ratio_same =
      let t = Ta c work_depth in
      same_trans (quotient_product t (exactly (tf c) work_depth))
      (same_trans (product_turned t (exactly (inv (tf c)) work_depth))
      (same_trans (product_same (exactly_same inverse_is work_depth) (same_refl t))
      (same_sym (double_divided_ends two_pos (twice_pos b) (quantity-Ta b) (lit≤ tt)))))

  -- ---- the rest of the line, where the span of 2tf/Ta is known

  module _ {l h w : ℕ} (p : 65536 ≤ l) (m : h ≤ most) (n : w ≤ 1000) (s : Span (exponent_ends c) l h w) where
    pub ratio_encloses : Encloses (ratio c) (ten 9) (ratio_ends c)
    unfolding ratio_ends ten
    ratio_encloses =
        encloses_same ratio_same
        (encloses_quotient {u = ten 0} (ten 9) (10 ^ 18) refl (span_divisor (le_trans (lit≤ tt) p) s).0 (consistent_exactly (whole 2))
        (quantity_exponent b).consistent
        (encloses_whole 2 (ten 0) refl) exponent_encloses)

    pub rest_encloses : Encloses (rest c) (ten 9) (rest_ends c)
    unfolding rest_ends ten
    rest_encloses =
        encloses_difference one.consistent (consistent_power b) (encloses_whole 1 (ten 9) refl)
        (power_encloses p m n (quantity_exponent b).consistent s exponent_encloses)

    offset_encloses : Encloses (offset c) (ten 9) (product_of (rest_ends c) (ratio_ends c) (10 ^ 9))
    unfolding ◌·x◌ ten
    offset_encloses =
        encloses_same (product_turned _ _)
        (encloses_product (ten 9) (10 ^ 9) refl (consistent_rest b) (quantity_ratio b).consistent rest_encloses ratio_encloses)

    pub square_encloses : Encloses (under_root c) (ten 9) (square_ends c)
    unfolding square_ends ten
    square_encloses = encloses_sum one.consistent (consistent_offset b) (encloses_whole 1 (ten 9) refl) offset_encloses

    pub factor_encloses : {l' h' w' : ℕ} → Span (square_ends c) l' h' w' → Encloses (Df c) (ten 9) (df_ends c)
    unfolding Df df_ends
    factor_encloses t = root_encloses t square_encloses
