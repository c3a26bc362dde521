-- Least values of Kii, Km and Ks, so that their widths may be given as a share of them.
use Prim.Native.Nat.{ℕ, zero, suc, ◌+◌, ◌*◌, ◌/◌, ◌^◌, ◌≤◌, ◌<◌}
use mathlib.Core.Path.{◌≡◌, ap}
use native.Mathlib.{Omega.{arith}, Nat.{mul-le-mul, div-mul-le_self}}
use lib.{Dec.{eqb, lit≤, lit<}, IntN.{pos, ◌+ℤ◌}}
use Rattle.whole.{specs.Signed.{plus, minus}, proofs.{Signed.{size_is, sum_is}, Rounding.{floor_div_by}}}
use Rattle.interval.{specs.{declared.Interval.{Interval}, Operations.{natural, point, sum_of}, Span.{Span}}, proofs.Sizes.{size_lower}}
use Rattle.interval.proofs.{Span.{span_sum, span_divide, span_lower}, Rules.{lits}}
use Rattle.interval.proofs.NumeralSpans.{numeral_point, numeral_quotient, numeral_wider}
use Rattle.enclosure.proofs.Constants.{π_span}
use Rattle.exponential.specs.Ends.{unit, halvings_of, argument_of, nested_of, series_of, inverse_of, squared_of, end_of, close_ends}
use Rattle.exponential.specs.Ends.{close_pair}
use Rattle.exponential.proofs.Sizes.{halvings_least, argument_size, nested_size, series_least}
use Rattle.case.specs.{declared.Case.{Case}, Bounds.{Bounds}}
use Rattle.formulas.proofs.Conductors.{by_place}
use Rattle.effective_number.{specs.{Counts.{Counts}, Number.{n_ends}}, proofs.NumberEnclosed.{counts}}
use Rattle.conductors.{specs.Weights.{inner_ends}, proofs.{LineRoots.{line_root_span}, WeightWidths.{exponent_span, inner_span}}}
use Rattle.step.specs.Ends.{per_metre, spacing_sum, ks_ends}
use Rattle.step.proofs.FactorSpans as step
use Rattle.mesh.{specs.Factor.{argument_log, inner_term, kii_ends, perimeter_rods, km_ends}, proofs.Logarithms.{argument_span}}
use Rattle.mesh.proofs.FactorSpans as mesh

-- a span from a known lower end on
span_from : {i : Interval} {l h w m k : ℕ} → i.lower ≡ pos k → m ≤ k → Span i l h w → Span i m h w
span_from {m = m} {k} e least s =
    let same : s.a ≡ k = cc (span_lower s) in
    record { a = s.a; b = s.b; is = s.is; from = omega (arith, same, least); order = s.order; to = s.to; near = s.near }

-- ---- e^−q for q up to 1.4 is at least 0.1

-- in quarters of a billionth, twelve terms of e^y, y at most a half, are at most 1.701
module _ (y : ℕ) (h : y ≤ 2000000001) where
  series_most : series_of 1 y ≤ 6804000000
  unfolding series_of nested_of
  series_most =
      let s = nested_of 1 y 1 10 in
      omega (arith, div-mul-le_self (y * s) unit, mul-le-mul h (nested_size {up = 1} (lit≤ tt) h 0 10))

  inverse_least : 2350000000 ≤ inverse_of 0 (series_of 1 y)
  unfolding inverse_of
  inverse_least =
      let s = series_of 1 y in
      let p : 0 < s = omega (arith, series_least 1 y) in
      omega (arith, floor_div_by (unit * unit) {w = 2350000000} p (omega (arith, series_most)))

-- its inverse is at least 0.5875, that squared at least 0.345, and that squared at least 0.1
once : {v : ℕ} → 2350000000 ≤ v → 1380000000 ≤ v * v / unit
once h = floor_div_by _ (lit< tt) (omega (arith, mul-le-mul h h))

twice : {v : ℕ} → 1380000000 ≤ v → 400000000 ≤ v * v / unit
twice h = floor_div_by _ (lit< tt) (omega (arith, mul-le-mul h h))

squared_least : {v : ℕ} → 2350000000 ≤ v → (m : ℕ) → m ≤ 2 → 400000000 ≤ squared_of 0 v m
unfolding squared_of
squared_least h zero k = omega arith
squared_least h (suc zero) k = omega (arith, once h)
squared_least h (suc (suc zero)) k = omega (arith, twice (once h))
squared_least h (suc (suc (suc m))) k = absurd (omega arith)

power_least : (b : ℕ) → b ≤ 1400000000 → 400000000 ≤ end_of 0 1 (halvings_of b) b
unfolding end_of argument_of
power_least b h =
    let few : halvings_of b ≤ 2 = halvings_least b 2 (omega arith) in
    let y : 4 * b / 2 ^ halvings_of b + 1 ≤ 2000000001 = omega (arith, argument_size {a = b} {b = b} (omega arith)) in
    squared_least (inverse_least _ y) (halvings_of b) few

-- ---- Kii

-- of unequal counts
power_span : {i : Interval} {l w width : ℕ} → Span i l 1400000000 w → Span (close_pair i) 0 1000000000 width
    → Span (close_pair i) 100000000 1000000000 width
unfolding close_pair close_ends natural
power_span s e = span_from (ap (λ j. (close_pair j).lower) s.is) (omega (arith, power_least s.b s.to)) e

one_span : Span (point (pos 1000000000)) 1000000000 1000000000 0
one_span = numeral_point 1000000000 (lits tt)

inner_least : {a b : ℕ} → Counts a b → Span (inner_ends a b (n_ends a b)) 100000000 1000000000 610
unfolding inner_ends
inner_least {a} {b} h =
    by_place (λ i. Span i 0 1000000000 610 → Span i 100000000 1000000000 610) (eqb a b)
    (λ e s.
    numeral_wider (numeral_quotient 1000000000 249999999 1000000000 1 (lits tt) one_span
    (line_root_span h.across)) (lits tt))
    (λ e s. power_span (exponent_span h e) s) (inner_span h)

module _ {c : Case} (b : Bounds c) where
  pub Kii-span : Span (kii_ends c) 100000000 1000000000 610
  unfolding kii_ends
  Kii-span =
      by_place (λ i. Span i 100000000 1000000000 610) (perimeter_rods c) (λ e. numeral_wider one_span (lits tt))
      (λ e. inner_least (counts b))

  -- ---- Km: ln G is at least 3.218, and the term below 0 at most 2.65

  total_least : 568000000 ≤ (mesh.total_span b).a
  unfolding sum_of natural
  total_least =
      let g = (argument_log c).lower in
      let t = (inner_term c).lower in
      let e : g +ℤ t ≡ pos (mesh.total_span b).a = ap (λ i. i.lower) (mesh.total_span b).is in
      let k = argument_span b in
      let small = size_lower (inner_term c) in
      omega (
        arith,
        sum_is g t,
        ap plus e,
        ap minus e,
        ap plus (span_lower k),
        ap minus (span_lower k),
        k.from,
        size_is t,
        small,
        mesh.term_size b,
      )

  pub Km-span : Span (km_ends c) 903000 17652000 6
  unfolding km_ends
  Km-span =
      let s = mesh.total_span b in
      numeral_quotient 10000000 903000 17652000 5 (lits tt)
      (record { a = s.a; b = s.b; is = s.is; from = total_least; order = s.order; to = s.to; near = s.near }) mesh.turn_span

  -- ---- Ks: 1/(2h) is at least 0.2 per metre

  depth_least : Span (per_metre 1 (2 * c.depth)) 200000000 2000000000 1
  unfolding per_metre
  depth_least =
      span_divide (2 * c.depth) (10 ^ 12) 200000000 2000000000 0 (omega (arith, b.depth.low)) (omega (arith, b.depth.high))
      (omega (arith, b.depth.low)) (omega arith) (numeral_point 1 {l = 1} {h = 1} (lits tt))

  pub Ks-span : Span (ks_ends c) 636000 10000000 4
  unfolding ks_ends spacing_sum
  Ks-span =
      numeral_quotient (10 ^ 7) 636000 10000000 3 (lits tt)
      (span_sum (span_sum depth_least (step.reach_span b)) (step.share_span b)) π_span
