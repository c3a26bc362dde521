-- How far apart the ends of ρ·Ki·IG/LM are: LM's are at most 1/3,535,000 apart, ρ·Ki·IG's at most 1/1,870,000, 3, and
-- 940 for each mm of the conductors.
use Prim.Native.Nat.{ℕ, ◌+◌, ◌*◌, ◌/◌, ◌≤◌, ◌<◌}
use mathlib.Core.Path.{◌≡◌}
use native.Mathlib.{Omega.{arith}, Nat.{mul-le-mul_left, le_trans, lt_of_mul-lt-mul_right, le_of_suc-le-suc, le_of_mul-le-mul_right}}
use lib.Dec.{eqb, lit≤, lit<}
use Rattle.whole.{specs.Whole.{ceil_div}, proofs.Rounding.{floor_div_below, floor_div_above, ceil_div_above, ceil_div_below, ceil_div_by}}
use Rattle.interval.{specs.{Operations.{natural}, Span.{Span, Relative}}, proofs.{Natural.{natural_quotient}, Span.{span_natural}}}
use Rattle.interval.proofs.Relatives.{relative_span, relative_point, relative_sum, relative_product, relative_quotient}
use Rattle.case.specs.{declared.Case.{Case}, Bounds.{Bounds}}
use Rattle.formulas.proofs.Conductors.{by_place}
use Rattle.lengths.{specs.Lengths.{lc_mm, lr_mm, lt_mm}, proofs.Lengths.{conductor_bounds}}
use Rattle.drive.proofs.Spans.{low, high, drive_is, drive_order, drive_near, drive_by_length}
use Rattle.mesh.specs.Ends.{rod_weight, weighed_length, lm_ends, driven_ends}
use Rattle.mesh.proofs.LengthSpans.{diagonal_span, weight_span, lm_span, lm_low}

-- ---- LM

pub lm_relative : {c : Case} → Bounds c → Relative (lm_ends c) 3535000 0
unfolding lm_ends weighed_length rod_weight
lm_relative {c} b =
    let weight : Relative (rod_weight c) 3535000 0 =
    relative_sum _ (lit≤ tt) (relative_quotient (122 * c.rodlen) 10000000000 {per = 3535000} (lit< tt) (lit≤ tt) (diagonal_span b)) in
    by_place (λ i. Relative i 3535000 0) (eqb c.place 1)
    (λ e.
    relative_sum (1000 * lc_mm c) (omega (arith, (conductor_bounds b).low))
    (relative_product (lr_mm c) (lit< tt) (weight_span b) weight))
    (λ e. relative_point (1000 * lt_mm c) 3535000)

-- ---- ρ·Ki·IG/LM: x to y, at most 1/1,870,000, 3 and 940 m apart, over c to d, at most 1/3,535,000 apart

driven_near : (x y c d m L U : ℕ) → 1870000 * y ≤ 1870001 * x + 1870000 * (3 + 940 * m) → 3535000 * d ≤ 3535001 * c → 10000000 ≤ c
    → 1000 * m ≤ c → U * c < y + c → x < L * d + d → 1220000 * U ≤ 1220001 * L + 3660000
driven_near x y c d m L U w h p q u l = le_of_suc-le-suc (lt_of_mul-lt-mul_right c (omega (arith, mul-le-mul_left L h)))

length_within : (c : Case) → lc_mm c ≤ lt_mm c
unfolding lt_mm
length_within c = omega arith

-- the ends of ρ·Ki·IG/LM, in m_v
pub record Driven {c : Case} (b : Bounds c) : Type 0 where
  pub L : ℕ
  pub U : ℕ
  pub is : driven_ends c ≡ natural L U
  pub order : L ≤ U
  pub near : 1220000 * U ≤ 1220001 * L + 3660000
  pub below : L * (1000 * lt_mm c) ≤ low b
  pub most : U ≤ 84076156800

pub driven_ends_lem : {c : Case} (b : Bounds c) → Driven b
unfolding driven_ends
driven_ends_lem {c} b =
    let e = lm_span b in
    let x = low b * 1 in
    let y = high b * 1 in
    let p : 0 < e.a = le_trans (omega (arith, lm_low b)) e.from in
    let q : 0 < e.b = le_trans p e.order in
    let floor = floor_div_below x e.b in
    let least = mul-le-mul_left (x / e.b) e.order in
    record {
      L = x / e.b;
      U = ceil_div y e.a;
      is = rw (e.is, drive_is b) (natural_quotient (low b) (high b) 1 p e.order);
      order = le_of_mul-le-mul_right (omega (arith, floor, least, ceil_div_above y p, drive_order b)) p;
      near =
          driven_near x y e.a e.b (lc_mm c) (x / e.b) (ceil_div y e.a) (omega (arith, drive_near b))
          (omega (arith, relative_span e (lm_relative b))) (le_trans (lm_low b) e.from)
          (omega (arith, e.from, length_within c)) (ceil_div_below y p) (floor_div_above x q);
      below = omega (arith, floor, least, mul-le-mul_left (x / e.b) e.from);
      most = ceil_div_by y p (omega (arith, drive_by_length b, mul-le-mul_left 84076156800 e.from, length_within c));
    }

pub driven_span : {c : Case} → Bounds c → Span (driven_ends c) 0 84076156800 84076156800
driven_span b = let v = driven_ends_lem b in rw v.is (span_natural v.L v.U (omega arith) v.order v.most (omega (arith, v.most)))
