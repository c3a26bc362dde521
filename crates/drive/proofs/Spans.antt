-- Sizes and width of ρ·Ki·IG.
use Prim.Native.Nat.{ℕ, ◌+◌, ◌*◌, ◌/◌, ◌^◌, ◌≤◌, ◌<◌}
use mathlib.Core.Path.{◌≡◌}
use native.Mathlib.{Omega.{arith}, Nat.{mul-le-mul, mul-le-mul_left, mul-le-mul_right}}
use lib.Dec.{lit≤, lit<}
use Rattle.whole.{specs.Whole.{ceil_div}, proofs.Rounding.{floor_div_below, floor_div_above, ceil_div_below, ceil_div_by}}
use Rattle.interval.{specs.{Operations.{natural}, Span.{Span}, Wide.{Wide}}, proofs.Natural.{natural_scaled, natural_product}}
use Rattle.interval.proofs.{Span.{floor≤ceil, span_natural, span_wider, span_scaled}, Relatives.{relative_ends, relative_span}}
use Rattle.interval.proofs.WidePairs.{wide_fits}
use Rattle.case.specs.{declared.Case.{Case}, Bounds.{Bounds}}
use Rattle.effective_number.{specs.{Counts.{spacings}, Number.{ki_ends}}, proofs.Table.{n_low, n_high, number_known}}
use Rattle.effective_number.proofs.{NumberSpans.{Ki-is, Ki-span}, NumberEnclosed.{counts}}
use Rattle.lengths.specs.Lengths.{side_of, lc_mm}
use Rattle.current.{specs.Ends.{ig_ends}, proofs.GridCurrent.{current_span, current_relative}}
use Rattle.drive.specs.Ends.{number_of, soil_current, drive_ends}

-- Ki times ρ·IG, rounded to A and B: k x and l y, with Ki's ends k to l at most 1/31,000,000 apart and the current's at most 1/2,000,000
-- and 2; s is the soil's share of those 2, m the length of the conductors
near : (k l x y s A B m : ℕ) → 31000000 * l ≤ 31000001 * k → 2000000 * y ≤ 2000001 * x + 4000000 * s → l * s ≤ 4700000000 * m
    → B * 10 ^ 7 < l * y + 10 ^ 7 → k * x < A * 10 ^ 7 + 10 ^ 7 → 1870000 * B ≤ 1870001 * A + 1870000 * (3 + 940 * m)
near k l x y s A B m p q t u v =
    apart (k * x) (l * x) (l * y) (l * s) (omega (arith, mul-le-mul_right x p)) (omega (arith, mul-le-mul_left l q)) t u v
  where
    apart : (kx lx ly ls : ℕ) → 31000000 * lx ≤ 31000001 * kx → 2000000 * ly ≤ 2000001 * lx + 4000000 * ls → ls ≤ 4700000000 * m
        → B * 10 ^ 7 < ly + 10 ^ 7 → kx < A * 10 ^ 7 + 10 ^ 7 → 1870000 * B ≤ 1870001 * A + 1870000 * (3 + 940 * m)
    apart kx lx ly ls p q t u v = omega arith

module _ {c : Case} (b : Bounds c) where
  -- ---- the current's ends

  pub current_low : ℕ
  current_low = (current_span b).a

  pub current_high : ℕ
  current_high = (current_span b).b

  pub current_is : ig_ends c ≡ natural current_low current_high
  unfolding current_low current_high
  current_is = (current_span b).is

  pub current_order : current_low ≤ current_high
  unfolding current_low current_high
  current_order = (current_span b).order

  current_near : 2000000 * current_high ≤ 2000001 * current_low + 2000000 * 2
  unfolding current_low current_high
  current_near = relative_span (current_span b) (current_relative b)

  -- ---- ρ·IG

  pub soil_current_span : Span (soil_current c) 0 894427200000000 200005000
  unfolding soil_current
  soil_current_span =
      let s = b.soil.high in
      span_wider (span_scaled c.soil (current_span b)) (omega arith) (mul-le-mul_left 178885440000 s) (mul-le-mul_left 40001 s)

  soil_current_is : soil_current c ≡ natural (current_low * c.soil) (current_high * c.soil)
  unfolding soil_current
  soil_current_is = rw current_is (natural_scaled current_low current_high c.soil)

  soil_current_order : current_low * c.soil ≤ current_high * c.soil
  soil_current_order = mul-le-mul_right c.soil current_order

  soil_current_most : current_high * c.soil ≤ 894427200000000
  unfolding current_high
  soil_current_most = mul-le-mul (current_span b).to b.soil.high

  pub drive_wide : Wide (ki_ends (number_of c)) (soil_current c) (10 ^ 7)
  drive_wide = wide_fits (10 ^ 7) 89442720 (lit< tt) (lit< tt) (lit≤ tt) (lit< tt) (Ki-span (counts b)) soil_current_span

  -- ---- the ends

  k : ℕ
  k = 6440000000 + n_low c.across c.along * 148

  l : ℕ
  l = 6440000000 + n_high c.across c.along * 148

  Ki-order : k ≤ l
  unfolding k l
  Ki-order = omega (arith, (number_known (counts b)).order)

  Ki-near : 31000000 * l ≤ 31000001 * k
  unfolding k l
  Ki-near =
      let s = Ki-span (counts b) in
      let e =
      relative_ends _ _ {per = 31000000} {extra = 0} (Ki-is (counts b))
      (record { a = s.a; b = s.b; is = s.is; near = omega (arith, s.near, s.from) }) in
      omega (arith, e)

  -- the ends of Ki times ρ·IG
  pub low : ℕ
  low = k * (current_low * c.soil) / 10 ^ 7

  pub low_below : low * 10 ^ 7 ≤ (6440000000 + n_low c.across c.along * 148) * (current_low * c.soil)
  unfolding low k
  low_below = floor_div_below _ (10 ^ 7)

  pub high : ℕ
  high = ceil_div (l * (current_high * c.soil)) (10 ^ 7)

  pub drive_is : drive_ends c ≡ natural low high
  unfolding drive_ends low high k l
  drive_is = rw (Ki-is (counts b), soil_current_is) (natural_product Ki-order soil_current_order (lit< tt))

  -- ---- against the conductors: Ki is at most 0.235 of them in spacings

  length_is : lc_mm c ≡ spacings c.across c.along * c.space
  unfolding lc_mm side_of spacings
  length_is = omega arith

  -- Ki by the length of the conductors
  Ki-by_length : l ≤ 940000 * lc_mm c
  unfolding l
  Ki-by_length =
      let p = spacings c.across c.along in
      omega (arith, (number_known (counts b)).by_length, length_is, mul-le-mul_left p b.space.low)

  pub drive_by_length : high ≤ 84076156800 * (1000 * lc_mm c)
  unfolding high
  drive_by_length = ceil_div_by _ (lit< tt) (omega (arith, mul-le-mul Ki-by_length soil_current_most))

  pub drive_order : low ≤ high
  unfolding low high
  drive_order = floor≤ceil _ _ (10 ^ 7) (lit< tt) (mul-le-mul Ki-order soil_current_order)

  -- within 64 bits
  drive_high : high ≤ 3885391756800000000
  unfolding high l
  drive_high =
      let n : 6440000000 + n_high c.across c.along * 148 ≤ 43440000000 = omega (arith, (number_known (counts b)).most) in
      ceil_div_by _ (lit< tt) (omega (arith, mul-le-mul n soil_current_most))

  pub drive_span : Span (drive_ends c) 0 3885391756800000000 3885391756800000000
  drive_span = rw drive_is (span_natural low high (omega arith) drive_order drive_high (omega (arith, drive_high)))

  -- the ends are at most 1/1,870,000 of the lower end, 3, and 940 for each mm of the conductors apart
  pub drive_near : 1870000 * high ≤ 1870001 * low + 1870000 * (3 + 940 * lc_mm c)
  unfolding low high
  drive_near =
      near k l (current_low * c.soil) (current_high * c.soil) c.soil _ _ (lc_mm c) Ki-near
      (omega (arith, mul-le-mul_right c.soil current_near)) (omega (arith, mul-le-mul Ki-by_length b.soil.high))
      (ceil_div_below _ (lit< tt)) (floor_div_above _ (lit< tt))
