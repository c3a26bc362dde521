-- Sizes and widths of the parts of the tolerable voltages' ends.
use Prim.Native.Nat.{ℕ, ◌+◌, ◌*◌, ◌≤◌}
use mathlib.Core.Bool.{Bool, true, false, cond}
use native.Mathlib.{Omega.{arith}, Nat.{mul-le-mul, le_trans}}
use lib.{Dec.{lit≤, eqb}, IntN.{pos}}
use Rattle.interval.{specs.{Operations.{point, sum_of, scaled_of}, Span.{Span}}, proofs.Span.{span_wider, span_sum, span_scaled}}
use Rattle.interval.proofs.{Rules.{lits}, NumeralSpans.{numeral_point}}
use Rattle.enclosure.proofs.RootSpan.{root_span}
use Rattle.case.specs.{declared.Case.{Case}, Bounds.{Between, Bounds}}
use Rattle.tolerable.specs.Ends.{layer_ends, body_factor, time_root, top_ends}
use Rattle.tolerable.proofs.Layer.{layer_span}

pub body_bounds : {c : Case} → Bounds c → Between 116 (body_factor c) 157
unfolding body_factor
body_bounds {c} b =
    either (eqb c.body 50) (record { low = lit≤ tt; high = lit≤ tt }) (record { low = lit≤ tt; high = lit≤ tt })
  where
    either : {k m : ℕ} (t : Bool) → Between 116 k 157 → Between 116 m 157 → Between 116 (cond t k m) 157
    either true h l = h
    either false h l = l

-- 1000 + weight/2 · Q
pub sum_span : {c : Case} → Bounds c → (weight : ℕ)
    → Span (sum_of (point (pos 2000000)) (scaled_of (layer_ends c) weight)) 2000000 (2000000 + 10000000 * weight) (1 * weight)
sum_span b weight =
    span_wider (span_sum (numeral_point 2000000 {l = 2000000} {h = 2000000} (lits tt)) (span_scaled weight (layer_span b)))
    (omega arith) (omega arith) (omega arith)

pub top_span : {c : Case} → Bounds c → (weight : ℕ) → weight ≤ 12 → Span (top_ends c weight) 232000000 19154000000 1884
unfolding top_ends
top_span {c} b weight h =
    let k = body_bounds b in
    span_wider (span_scaled (body_factor c) (sum_span b weight))
    (omega (arith, k.low))
    (le_trans (mul-le-mul (high weight h) k.high) (lit≤ tt))
    (le_trans (mul-le-mul (width weight h) k.high) (lit≤ tt))
  where
    high : (w : ℕ) → w ≤ 12 → 2000000 + 10000000 * w ≤ 122000000
    high w l = omega arith

    width : (w : ℕ) → w ≤ 12 → 1 * w ≤ 12
    width w l = omega arith

-- ---- √t

pub time_span : {c : Case} → Bounds c → Span (time_root c) 9000000 200000000 1
unfolding time_root
time_span b = root_span _ 9000000 200000000 (omega arith) (omega arith)
