-- Sizes and widths of the decrement factor and of its square.
use Prim.Native.Nat.{ℕ, zero, suc, ◌+◌, ◌-◌, ◌*◌, ◌/◌, ◌^◌, ◌≤◌, ◌<◌}
use mathlib.Core.Path.{◌≡◌, refl}
use native.Mathlib.{Omega.{arith}, Nat.{mul-le-mul, mul-le-mul_left, mul-le-mul_right, le_of_mul-le-mul_right, lt_of_not-le}}
use native.Mathlib.Decide.{dec_le}
use lib.Dec.{lit≤, lit<}
use Rattle.whole.proofs.Rounding.{floor_div_above}
use Rattle.interval.specs.{Root.{IsRoot}, Operations.{natural, product_of}, Span.{Span}}
use Rattle.interval.proofs.{Span.{span_natural, span_sum, span_product}, Rules.{lits}, NumeralSpans.{numeral_point, numeral_wider}}
use Rattle.enclosure.{specs.SquareRoot.{square_root}, proofs.SquareRoot.{square_root_lem}}
use Rattle.exponential.specs.Ends.{billion, unit, halvings_of, argument_of, nested_of, series_of, inverse_of, squared_of, end_of}
use Rattle.exponential.proofs.Sizes.{halvings_reach, halvings_least, nested_size, series_least}
use Rattle.case.specs.{declared.Case.{Case}, Bounds.{Bounds}}
use Rattle.decrement.specs.Ends.{ratio_ends, rest_ends, square_ends, df_ends}
use Rattle.decrement.proofs.Spans.{exponent_low, exponent_high, ratio_high, power_width, rest_high, low_to, low_high, ends_near}
use Rattle.decrement.proofs.Spans.{ratio_high_lem, ratio_most, ratio_span, power_width_lem, rest_high_is, rest_high_span, rest_most}

-- ---- the product of 1 − e^−q and 2/q: r is 2/q at the exponent's lower end a

-- its width: that of e^−q, w, grows with q as 2/q falls
share_near : (a r w : ℕ) → a ≤ 2261946710880 → r * a < 2 * 10 ^ 18 + a → r ≤ 14147106094 → w * billion ≤ 7 * billion + 13 * a
    → billion * 207 + r * w ≤ 810 * billion
share_near a r w h p q k = le_of_mul-le-mul_right {k = billion} (omega (arith, h, p, q, mul-le-mul_left r k)) (lit< tt)

-- ---- its size

-- 1 − 1/s is at most s − 1
inverse_rest : (s : ℕ) → unit ≤ s → unit - (unit * unit / s + 2 * 0) + unit ≤ s
inverse_rest s h = go (dec_le (unit - (unit * unit / s + 2 * 0) + unit) s)
  where
    apart : (u t : ℕ) → u + t ≤ unit → unit * unit < u * (unit + t) → ⊥
    apart u t p q = let l : u ≤ unit = omega arith in omega (arith, mul-le-mul_left t l)

    go : Dec (unit - (unit * unit / s + 2 * 0) + unit ≤ s) → unit - (unit * unit / s + 2 * 0) + unit ≤ s
    go (yes p) = p
    go (no p) =
        let u = unit * unit / s + 1 in
        let t = s - unit in
        let e : unit + t ≡ s = omega arith in
        absurd (apart u t (omega arith) (rw e (omega (arith, floor_div_above (unit * unit) {d = s} (omega arith)))))

-- twelve terms of e^y, less 1, are at most 1.4 y and 2 units
series_high : (y : ℕ) → y ≤ 2000000001 → series_of 1 y * unit ≤ unit * unit + 5600000000 * y + 2 * unit
unfolding series_of nested_of
series_high y h = omega (arith, mul-le-mul_left y (nested_size {up = 1} (lit≤ tt) h 0 10))

-- for an exponent of at most 1/2, which has no halvings
rest_small : (b : ℕ) → b ≤ 500000000 → (billion - end_of 0 1 0 b / 4) * billion ≤ 1525000003 * (b + 1) + 2 * billion
unfolding end_of squared_of inverse_of argument_of
rest_small b h =
    let y = 4 * b / 2 ^ 0 + 1 in
    let k : y ≤ 4 * b + 1 = omega arith in
    omega (arith, inverse_rest (series_of 1 y) (series_least 1 y), series_high y (omega arith), k)

-- s is 1 − e^−b
small_share : (a b r s : ℕ) → b ≤ a + 2 → r * a < 2 * 10 ^ 18 + a → a ≤ billion → r ≤ 14147106094
    → s * billion ≤ 1525000003 * (b + 1) + 2 * billion → s * r ≤ 4000000009 * billion
small_share a b r s h p l q k =
    let m : s * billion ≤ 1525000003 * a + 6575000009 = omega arith in
    le_of_mul-le-mul_right {k = billion} (omega (arith, p, q, l, mul-le-mul_right r m)) (lit< tt)

-- from 1/2 on 2/q is at most 4
large_ratio : (a r : ℕ) → 499999999 ≤ a → r * a < 2 * 10 ^ 18 + a → r ≤ 4000000009
large_ratio a r h p = go (dec_le r 4000000009)
  where
    go : Dec (r ≤ 4000000009) → r ≤ 4000000009
    go (yes q) = q
    go (no q) = let l : 4000000010 ≤ r = omega arith in absurd (omega (arith, p, h, mul-le-mul_right a l))

-- ---- roots

root_least : {x r : ℕ} → IsRoot x r → 10 ^ 18 ≤ x → billion ≤ r
root_least {x} {r} h k = go (dec_le billion r)
  where
    go : Dec (billion ≤ r) → billion ≤ r
    go (yes p) = p
    go (no p) = let q : r + 1 ≤ billion = omega arith in absurd (omega (arith, h.high, mul-le-mul q q))

pub root_most : {x r : ℕ} → IsRoot x r → x ≤ 5000000009 * billion → r + 1 ≤ 2236068000
root_most {x} {r} h k = go (dec_le (r + 1) 2236068000)
  where
    go : Dec (r + 1 ≤ 2236068000) → r + 1 ≤ 2236068000
    go (yes p) = p
    go (no p) = let q : 2236068000 ≤ r = omega arith in absurd (omega (arith, h.low, mul-le-mul q q))

root_rises : {x y r s : ℕ} → IsRoot x r → IsRoot y s → x ≤ y → r ≤ s
root_rises {x} {y} {r} {s} h k l = go (dec_le r s)
  where
    go : Dec (r ≤ s) → r ≤ s
    go (yes p) = p
    go (no p) = let q : s + 1 ≤ r = omega arith in absurd (omega (arith, h.low, k.high, mul-le-mul q q))

-- from 1 on a root is half as wide as its square
root_near : {x y r s : ℕ} → IsRoot x r → IsRoot y s → billion ≤ r → y ≤ x + 811 * billion → s ≤ r + 407
root_near {x} {y} {r} {s} h k l n = go (dec_le s (r + 407))
  where
    go : Dec (s ≤ r + 407) → s ≤ r + 407
    go (yes p) = p
    go (no p) = let q : r + 408 ≤ s = omega arith in absurd (omega (arith, h.high, k.low, l, n, mul-le-mul q q))

module _ {c : Case} (h : Bounds c) where
  -- without halvings by the terms, with them by 2/q
  product_most : rest_high h * ratio_high h ≤ 4000000009 * billion
  product_most = go (halvings_of (exponent_high h)) refl
    where
      go : (j : ℕ) → halvings_of (exponent_high h) ≡ j → rest_high h * ratio_high h ≤ 4000000009 * billion
      go zero e =
          let b : 2 * exponent_high h ≤ 2 ^ 0 * billion = rw e at (halvings_reach (exponent_high h)) in
          let l = low_high h in
          small_share (exponent_low h) (exponent_high h) (ratio_high h) (rest_high h) (omega (arith, ends_near h, b, l)) (ratio_high_lem h)
          (omega (arith, b, l)) (ratio_most h) (rw (rest_high_is h (omega (arith, b, l)), e) (rest_small (exponent_high h) (omega arith)))
      go (suc j) e =
          let b : billion < 2 * exponent_high h = lt_of_not-le (λ k. omega (arith, halvings_least (exponent_high h) 0 (omega arith), e)) in
          let r = large_ratio (exponent_low h) (ratio_high h) (omega (arith, ends_near h, b)) (ratio_high_lem h) in
          omega (arith, mul-le-mul (rest_most h) r)

  pub product_span : Span (product_of (rest_ends c) (ratio_ends c) billion) 0 4000000009 811
  product_span =
      span_product billion 0 4000000009 810 (lit< tt) (omega arith) product_most
      (omega (
        arith,
        rest_most h,
        share_near (exponent_low h) (ratio_high h) (power_width h) (low_to h) (ratio_high_lem h) (ratio_most h)
            (power_width_lem h),
      ))
      (rest_high_span h) (ratio_span h)

  pub square_span : Span (square_ends c) billion 5000000009 811
  unfolding square_ends
  square_span = numeral_wider (span_sum (numeral_point billion {l = billion} {h = billion} (lits tt)) product_span) (lits tt)

  -- from 1 to √5, and at most 500 billionths wide
  pub factor_span : Span (df_ends c) billion 2236068000 500
  unfolding df_ends natural
  factor_span =
      let s = square_span in
      let r = square_root_lem (s.a * 10 ^ 9) in
      let t = square_root_lem (s.b * 10 ^ 9) in
      let least = root_least r (omega (arith, s.from)) in
      rw s.is
      (span_natural (square_root (s.a * 10 ^ 9)) (square_root (s.b * 10 ^ 9) + 1) least
      (omega (arith, root_rises r t (omega (arith, s.order)))) (root_most t (omega (arith, s.to)))
      (omega (arith, root_near r t least (omega (arith, s.near)))))
