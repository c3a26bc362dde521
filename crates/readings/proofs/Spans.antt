-- The ends of 2π·s/count: within 64 bits, where they lie and how far apart they are.
use Prim.Native.Nat.{ℕ, ◌+◌, ◌*◌, ◌/◌, ◌≤◌, ◌<◌}
use mathlib.Core.Path.{◌≡◌, refl}
use native.Mathlib.Omega.{arith}
use lib.{Dec.{lit<, lit≤}, IntN.{pos}}
use Rattle.whole.{specs.Whole.{ceil_div}, proofs.Rounding.{ceil_div_by}}
use Rattle.interval.specs.{Operations.{natural, point}, Span.{Span, Relative}, Wide.{Wide}}
use Rattle.interval.proofs.{Natural.{point_natural, natural_product}, Relatives.{relative_product}}
use Rattle.interval.proofs.{Span.{span_natural, span_point, floor≤ceil}, WidePairs.{wide_fits}, Rules.{lits}}
use Rattle.interval.proofs.NumeralSpans.{numeral_natural}
use Rattle.exact.specs.{Fraction.{decimal, ◌+f◌, neg, ◌−f◌, ◌·f◌}, Reported.{ten, over, reported, AtMost}}
use Rattle.readings.specs.{Taken.{most_pairs, most_product}, Report.{μΩm, width}}
use Rattle.readings.specs.Ends.{two_pi_below, two_pi_above, two_pi, two_pi_unit, most_mean, ends_of}

two_pi_span : Span two_pi two_pi_below two_pi_above 1
unfolding two_pi
two_pi_span = numeral_natural two_pi_below two_pi_above (lits tt)

two_pi_near : Relative two_pi 1000000 0
unfolding two_pi
two_pi_near = record { a = two_pi_below; b = two_pi_above; is = refl; near = lit≤ tt }

module _ (s : ℕ) {count : ℕ} (h : 0 < count) where
  pub unit_pos : 0 < count * two_pi_unit
  unit_pos = omega arith

  pub ends_are : ends_of s count ≡ natural (two_pi_below * s / (count * two_pi_unit)) (ceil_div (two_pi_above * s) (count * two_pi_unit))
  unfolding ends_of two_pi
  ends_are = rw (point_natural s) (natural_product (lit≤ tt) (omega arith) unit_pos)

  pub ends_near : Relative (ends_of s count) 1000000 2
  unfolding ends_of
  ends_near = relative_product s unit_pos two_pi_span two_pi_near

  module _ (k : count ≤ most_pairs) (l : s ≤ count * most_product) where
    pub ends_wide : Wide two_pi (point (pos s)) (count * two_pi_unit)
    ends_wide =
        wide_fits (count * two_pi_unit) (most_product / two_pi_unit) unit_pos (omega arith) (omega arith) (lit< tt) two_pi_span
        (span_point s {l = 0} (omega arith) l)

    pub ends_span : Span (ends_of s count) 0 most_mean most_mean
    ends_span =
        let d : ℕ = count * two_pi_unit in
        let most : ceil_div (two_pi_above * s) d ≤ most_mean = ceil_div_by (two_pi_above * s) unit_pos (omega arith) in
        rw ends_are
        (span_natural (two_pi_below * s / d) (ceil_div (two_pi_above * s) d) (omega arith)
        (floor≤ceil (two_pi_below * s) (two_pi_above * s) d unit_pos (omega arith)) most (omega arith))

within_allowed : (a b : ℕ) → 1000000 * b ≤ 1000001 * a + 1000000 * 2
    → AtMost (width (reported μΩm (natural a b))) (reported μΩm (natural a b))
unfolding width reported μΩm ten over natural decimal ◌·f◌ ◌+f◌ ◌−f◌ neg
within_allowed a b h = record { apart = record { le = omega arith } }

pub ends_narrow : (s : ℕ) {count : ℕ} → 0 < count → AtMost (width (reported μΩm (ends_of s count))) (reported μΩm (ends_of s count))
ends_narrow s h =
    let r = ends_near s h in
    rw r.is (within_allowed r.a r.b r.near)
