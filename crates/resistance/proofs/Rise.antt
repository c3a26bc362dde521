-- The potential rise: its ends, its width and what it encloses.
use Prim.Native.Nat.{ℕ, ◌+◌, ◌*◌, ◌/◌, ◌^◌, ◌≤◌, ◌<◌}
use mathlib.Core.Path.{refl}
use native.Mathlib.{Omega.{arith}, Nat.{mul-le-mul_left, mul-le-mul_right}}
use lib.Dec.{lit≤, lit<}
use Rattle.whole.{specs.Whole.{ceil_div}, proofs.Rounding.{floor_div_above, ceil_div_below}}
use Rattle.interval.{specs.{Operations.{natural}, Span.{Relative}, Wide.{Wide}}, proofs.Natural.{natural_product}}
use Rattle.interval.proofs.{Relatives.{relative_span}, WidePairs.{wide_fits}}
use Rattle.exact.specs.{Fraction.{decimal, ◌+f◌, neg, ◌−f◌, ◌·f◌}, Exact.{◌·x◌}, Depth.{work_depth}, Reported.{ten, over, reported, AtMost}}
use Rattle.exact.proofs.Factors.{product_turned}
use Rattle.enclosure.{specs.Enclosure.{Encloses}, proofs.{Basics.{encloses_same}, Products.{encloses_product}}}
use Rattle.case.specs.{declared.Case.{Case}, Bounds.{Bounds}}
use Rattle.formulas.specs.{Current.{IG}, Resistance.{resistance, potential_rise}, Width.{m_v, μΩ, μA, rise_width}}
use Rattle.formulas.proofs.{Quantities.{quantity_IG}, Consistent.{quantity_resistance}}
use Rattle.current.{specs.Ends.{ig_ends}, proofs.GridCurrent.{current_span, current_relative, current_encloses}}
use Rattle.resistance.specs.Ends.{resistance_ends, rise_ends}
use Rattle.resistance.proofs.{Spans.{resistance_span}, Enclosed.{resistance_encloses}, Widths.{resistance_near}}

within_allowed : (x z : ℕ) → 2000 * z ≤ 2001 * x + 2000 * 10 → AtMost (rise_width (reported m_v (natural x z))) (reported m_v (natural x z))
unfolding rise_width reported m_v ten over natural decimal ◌·f◌ ◌+f◌ ◌−f◌ neg
within_allowed x z h = record { apart = record { le = omega arith } }

-- L to U times g to i over 10^9, rounded to X and Z
near : (g i L U X Z : ℕ) → 10000 * U ≤ 10001 * L + 10000 * 2 → 5100 ≤ L → U ≤ 1500000000 → 2000000 * i ≤ 2000001 * g + 2000000 * 2
    → L * g < X * 10 ^ 9 + 10 ^ 9 → Z * 10 ^ 9 < U * i + 10 ^ 9 → 2000 * Z ≤ 2001 * X + 2000 * 10
near g i L U X Z h k m j l u = omega (arith, mul-le-mul_right g h, mul-le-mul_right g k, mul-le-mul_left U j, m, l, u)

module _ {c : Case} (b : Bounds c) where
  -- the code computes resistance times IG
  pub rise_encloses : Encloses (potential_rise c) m_v (rise_ends c)
  unfolding potential_rise rise_ends m_v μΩ μA ten ◌·x◌
  rise_encloses =
      encloses_same (product_turned (IG c work_depth) (resistance c work_depth))
      (encloses_product (ten 3) (10 ^ 9) refl (quantity_resistance b).consistent (quantity_IG b).consistent (resistance_encloses b)
      (current_encloses b))

  pub rise_wide : Wide (resistance_ends c) (ig_ends c) (10 ^ 9)
  rise_wide = wide_fits (10 ^ 9) 179 (lit< tt) (lit< tt) (lit≤ tt) (lit< tt) (resistance_span b) (current_span b)

  pub rise_near : Relative (rise_ends c) 2000 10
  unfolding rise_ends
  rise_near =
      let s = resistance_span b in
      let t = current_span b in
      let p : 0 < 10 ^ 9 = lit< tt in
      record {
        a = s.a * t.a / 10 ^ 9;
        b = ceil_div (s.b * t.b) (10 ^ 9);
        is = rw (s.is, t.is) (natural_product s.order t.order p);
        near =
            near t.a t.b s.a s.b _ _ (relative_span s (resistance_near b)) s.from s.to
            (relative_span t (current_relative b))
            (floor_div_above (s.a * t.a) p) (ceil_div_below (s.b * t.b) p);
      }

  pub rise_narrow : AtMost (rise_width (reported m_v (rise_ends c))) (reported m_v (rise_ends c))
  rise_narrow = rw rise_near.is (within_allowed rise_near.a rise_near.b rise_near.near)
