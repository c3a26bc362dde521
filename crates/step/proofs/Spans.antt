-- Sizes and widths of ρ·Ki·IG/LS.
use Prim.Native.Nat.{ℕ, ◌+◌, ◌*◌, ◌/◌, ◌≤◌, ◌<◌}
use mathlib.Core.Path.{◌≡◌}
use native.Mathlib.{Omega.{arith}, Nat.{mul-le-mul_left, lt_of_mul-lt-mul_right, le_of_suc-le-suc}}
use lib.IntN.{pos}
use Rattle.whole.{specs.Whole.{ceil_div}, proofs.Rounding.{floor_div_below, floor_div_above, ceil_div_below, ceil_div_by}}
use Rattle.interval.{specs.{Operations.{natural, point}, Span.{Span}}, proofs.Natural.{point_natural, natural_quotient}}
use Rattle.interval.proofs.Span.{floor≤ceil, span_natural, span_point}
use Rattle.case.specs.{declared.Case.{Case}, Bounds.{Between, Bounds}}
use Rattle.lengths.{specs.Lengths.{lc_mm}, proofs.Lengths.{conductor_bounds, rod_bound}}
use Rattle.drive.proofs.Spans.{low, high, drive_is, drive_order, drive_near, drive_by_length}
use Rattle.step.specs.Ends.{ls_twentieths, driven_ends}

-- x to y, at most 1/1,870,000, 3 and 940 k apart, over m and rounded to L and U
near : (x y k m L U : ℕ) → 1870000 * y ≤ 1870001 * x + 1870000 * (3 + 940 * k) → 7500000 ≤ m → 750 * k ≤ m → U * m < y + m → x < L * m + m
    → 1870000 * U ≤ 1870001 * L + 1870000 * 4
near x y k m L U h p q u l = le_of_suc-le-suc (lt_of_mul-lt-mul_right m (omega (arith, h, p, q, u, l)))

module _ {c : Case} (b : Bounds c) where
  -- ---- LS

  pub length_bounds : Between 150000 (ls_twentieths c) 574000000
  unfolding ls_twentieths
  length_bounds =
      let l = conductor_bounds b in
      record { low = omega (arith, l.low); high = omega (arith, l.high, rod_bound b) }

  pub length_pos : 0 < 50 * ls_twentieths c
  length_pos = omega (arith, length_bounds.low)

  pub length_span : Span (point (pos (50 * ls_twentieths c))) 7500000 28700000000 0
  length_span = span_point (50 * ls_twentieths c) (mul-le-mul_left 50 length_bounds.low) (mul-le-mul_left 50 length_bounds.high)

  length_from : 15 * lc_mm c ≤ ls_twentieths c
  unfolding ls_twentieths
  length_from = omega arith

  -- ---- ρ·Ki·IG/LS

  -- its ends, in mV
  pub driven_low : ℕ
  driven_low = low b * 1 / (50 * ls_twentieths c)

  pub driven_high : ℕ
  driven_high = ceil_div (high b * 1) (50 * ls_twentieths c)

  pub driven_is : driven_ends c ≡ natural driven_low driven_high
  unfolding driven_ends driven_low driven_high
  driven_is = rw (drive_is b, point_natural (50 * ls_twentieths c)) (natural_quotient (low b) (high b) 1 length_pos (omega arith))

  pub driven_below : driven_low * (50 * ls_twentieths c) ≤ low b
  unfolding driven_low
  driven_below = omega (arith, floor_div_below (low b * 1) (50 * ls_twentieths c))

  pub driven_near : 1870000 * driven_high ≤ 1870001 * driven_low + 1870000 * 4
  unfolding driven_low driven_high
  driven_near =
      near (low b * 1) (high b * 1) (lc_mm c) (50 * ls_twentieths c) _ _ (omega (arith, drive_near b))
      (omega (arith, length_bounds.low))
      (omega (arith, length_from))
      (ceil_div_below (high b * 1) length_pos) (floor_div_above (low b * 1) length_pos)

  pub driven_order : driven_low ≤ driven_high
  unfolding driven_low driven_high
  driven_order = floor≤ceil (low b * 1) (high b * 1) (50 * ls_twentieths c) length_pos (omega (arith, drive_order b))

  driven_most : driven_high ≤ 112101542400
  unfolding driven_high
  driven_most = ceil_div_by (high b * 1) length_pos (omega (arith, drive_by_length b, length_from))

  pub driven_span : Span (driven_ends c) 0 112101542400 60000
  driven_span =
      rw driven_is (span_natural driven_low driven_high (omega arith) driven_order driven_most
      (omega (arith, driven_near, driven_order, driven_most)))
