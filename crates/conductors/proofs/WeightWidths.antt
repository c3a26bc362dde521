-- Widths of what depends on n, at all pairs of counts: the test's numbers are those of the named ends.
use Prim.Native.Nat.{ℕ, ◌+◌, ◌-◌, ◌*◌, ◌^◌, ◌≤◌, ◌<◌}
use mathlib.Core.{Path.{◌≡◌}, Bool.{false}, List.{[], ◌∷◌}}
use native.Mathlib.{Omega.{arith}, Nat.{le_trans, le_of_mul-le-mul_right}}
use lib.{Dec.{eqb, lit≤, lit<}}
use Rattle.whole.proofs.Rounding.{floor_div_falls}
use Rattle.interval.specs.{declared.Interval.{Interval}, Operations.{natural}, Span.{Span}}
use Rattle.interval.proofs.Natural.{point_natural, natural_difference, natural_scaled, natural_product, natural_quotient}
use Rattle.interval.proofs.{Span.{floor≤ceil, span_natural, span_wider}, Negated.{span_less}, Rules.{◌≼◌, Kept, lits}}
use Rattle.interval.proofs.NumeralSpans.{numeral_point, numeral_product, numeral_quotient, numeral_wider}
use Rattle.enclosure.specs.Pi.{π_below, π_above, π_ends}
use Rattle.logarithm.{specs.Ends.{ln_pair}, proofs.KnownHalvings.{close_by}}
use Rattle.exponential.{specs.Ends.{billion, most, halvings_of, close_pair}, proofs.{Sizes.{halvings_parts}, Span.{close_span}}}
use Rattle.formulas.proofs.Conductors.{by_place}
use Rattle.effective_number.{specs.{Counts.{Counts}, Number.{n_ends}}, proofs.Table.{n_low, n_high, number_known}}
use Rattle.effective_number.proofs.NumberSpans.{n_least, n_is, n_more}
use Rattle.conductors.specs.Weights.{eight, odd_ends, inner_exponent, inner_ends, half_exponent, half_power_ends}
use Rattle.conductors.proofs.Table.{halved, Halved, odd_low, odd_high, ln_low, ln_high, exponent_low, exponent_high}
use Rattle.conductors.proofs.{Table.{spread_known, exponent_known}, WeightSpans.{ln2_span}, LineRoots.{line_root_span}}

-- the ends of a logarithm whose halvings are known
known_log : {p q s : ℕ} → 1 ≤ s → Halved p s → Halved q s → ln_pair (natural p q) s ≡ natural (ln_low p s) (ln_high q s)
unfolding ln_pair natural ln_low ln_high
known_log {p} {q} {s} h hp hq =
    let lower = close_by (halved p s) p h hp.low hp.high in
    let upper = close_by (halved q s) q h hq.low hq.high in
    λ i. record { lower = (lower i).lower; upper = (upper i).upper }

-- the width of e^−q from that of q: 2^j is at most 1 and 4q
power_span : {i : Interval} {l h w : ℕ} (width : ℕ) → Span i l h w
    → Kept ((65536 ≼ l) ∷ (h ≼ most) ∷ (w ≼ 1000) ∷ ((w + 1) * billion + 3 * (4 * h + billion) ≼ width * billion) ∷ [])
    → Span (close_pair i) 0 billion width
unfolding close_pair natural
power_span {w = w} width s k =
    let j = halvings_of s.b in
    let few : 2 ^ j * billion ≤ 4 * s.b + billion = halvings_parts s.b in
    let near : s.b - s.a + 3 * 2 ^ j + 1 ≤ width
    = le_of_mul-le-mul_right {k = billion} (omega (arith, few, s.near, s.to, k.at 3)) (lit< tt) in
    rw s.is
    (span_wider (close_span (le_trans (k.at 0) s.from) s.order (le_trans s.to (k.at 1)) (omega (arith, s.near, k.at 2)))
    (lit≤ tt) (lit≤ tt) near)

module _ {a b : ℕ} (h : Counts a b) where
  l : ℕ
  l = n_low a b

  u : ℕ
  u = n_high a b

  from : 20000000 ≤ l
  unfolding l
  from = n_least h

  order : l ≤ u
  unfolding l u
  order = (number_known h).order

  -- ---- ln(π(2n−1)/8)

  odd_is : odd_ends (n_ends a b) ≡ natural (odd_low l) (odd_high u)
  unfolding odd_ends π_ends l u
  odd_is =
      rw (
        n_is h,
        natural_scaled l u 2,
        point_natural 10000000,
        natural_difference (l * 2) (u * 2) 10000000 10000000 (omega (arith, from))
            (omega (arith, from, order)),
      )
      (natural_product {a = π_below} {b = π_above} (lit≤ tt) (omega (arith, order)) (lit< tt))

  pub log_is : ln_pair (odd_ends (n_ends a b)) eight ≡ natural (ln_low (odd_low (n_low a b)) eight) (ln_high (odd_high (n_high a b)) eight)
  unfolding l u
  log_is =
      let k = spread_known h in
      rw odd_is (known_log (lit≤ tt) k.low k.high)

  pub spread_span : Span (ln_pair (odd_ends (n_ends a b)) eight) 0 2960000000 60
  unfolding l u
  spread_span =
      let k = spread_known h in
      rw log_is (span_natural _ _ (omega arith) k.order k.most k.near)

  -- ---- the inner weight

  pub exponent_is : eqb a b ≡ false
      → inner_exponent (n_ends a b)
      ≡ natural (exponent_low (n_high a b) (ln_low (n_low a b * 2) 10000000)) (exponent_high (n_low a b) (ln_high (n_high a b * 2) 10000000))
  unfolding inner_exponent l u
  exponent_is e =
      let k = exponent_known h e in
      let p : 0 < l = omega (arith, from) in
      rw (
        n_is h,
        natural_scaled l u 2,
        point_natural 20000000,
        natural_quotient 20000000 20000000 {c = l} {d = u} 1000000000 p order,
        known_log {p = l * 2} {q = u * 2} {s = 10000000} (lit≤ tt) k.low k.high,
      )
      (natural_product (le_trans (floor_div_falls 20000000000000000 p order)
      (floor≤ceil 20000000000000000 20000000000000000 l p (omega arith))) k.log_order (lit< tt))

  pub exponent_span : eqb a b ≡ false → Span (inner_exponent (n_ends a b)) 65536 1400000000 95
  unfolding l u
  exponent_span e =
      let k = exponent_known h e in
      rw (exponent_is e) (span_natural _ _ k.least k.order k.most k.near)

  pub inner_span : Span (inner_ends a b (n_ends a b)) 0 1000000000 610
  unfolding inner_ends
  inner_span =
      let one = numeral_point 1000000000 {l = 1000000000} {h = 1000000000} (lits tt) in
      by_place (λ i. Span i 0 1000000000 610) (eqb a b)
      (λ e.
      numeral_wider (numeral_quotient 1000000000 0 1000000000 1 (lits tt) one (line_root_span h.across)) (lits tt))
      (λ e. power_span 610 (exponent_span e) (lits tt))

  -- ---- 0.5^(n−2)

  pub half_exponent_span : eqb a b ≡ false → Span (half_exponent (n_ends a b)) 277258872 15942385163 163
  unfolding half_exponent
  half_exponent_span e =
      numeral_product 10000000 277258872 15942385163 162 (lits tt) (span_less 20000000 (lit≤ tt) (n_more h e))
      ln2_span

  pub half_span : eqb a b ≡ false → Span (half_power_ends (n_ends a b)) 0 1000000000 2120
  unfolding half_power_ends
  half_span e = power_span 2120 (half_exponent_span e) (lits tt)
