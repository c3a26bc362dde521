-- The resistance's and the potential rise's ends are no further apart than §5.8 allows.
use Prim.Native.Nat.{ℕ, ◌+◌, ◌*◌, ◌/◌, ◌≤◌, ◌<◌}
use native.Mathlib.{Omega.{arith}, Nat.{mul-le-mul_right}}
use lib.Dec.{lit<}
use Rattle.whole.{specs.Whole.{ceil_div}, proofs.Rounding.{floor_div_above, ceil_div_below}}
use Rattle.interval.{specs.{Operations.{natural}, Span.{Relative}}, proofs.Natural.{natural_scaled, natural_outward}}
use Rattle.interval.proofs.Relatives.{relative_span}
use Rattle.exact.specs.{Fraction.{decimal, ◌+f◌, neg, ◌−f◌, ◌·f◌}, Reported.{ten, over, reported, AtMost}}
use Rattle.case.specs.{declared.Case.{Case}, Bounds.{Bounds}}
use Rattle.formulas.specs.Width.{μΩ, resistance_width}
use Rattle.resistance.specs.Ends.{resistance_ends}
use Rattle.resistance.proofs.Spans.{per_soil_span, per_soil_near}

-- U and L are b s and a s over 1000, rounded outward
near : (a b s L U : ℕ) → 200000 * b ≤ 200001 * a + 200000 * 3 → 510000 ≤ a → 10 ≤ s → U * 1000 < b * s + 1000 → a * s < L * 1000 + 1000
    → 10000 * U ≤ 10001 * L + 10000 * 2
near a b s L U p q r u l = omega (arith, mul-le-mul_right s p, mul-le-mul_right s q, u, l)

pub resistance_near : {c : Case} → Bounds c → Relative (resistance_ends c) 10000 2
unfolding resistance_ends
resistance_near {c} b =
    let s = per_soil_span b in
    let k : ℕ = c.soil in
    record {
      a = s.a * k / 1000;
      b = ceil_div (s.b * k) 1000;
      is = rw (s.is, natural_scaled s.a s.b k) (natural_outward (s.a * k) (s.b * k) (lit< tt));
      near =
          near s.a s.b k _ _ (relative_span s (per_soil_near b)) s.from b.soil.low (ceil_div_below (s.b * k) (lit< tt))
          (floor_div_above (s.a * k) (lit< tt));
    }

within_allowed : (a b : ℕ) → 10000 * b ≤ 10001 * a + 10000 * 2
    → AtMost (resistance_width (reported μΩ (natural a b))) (reported μΩ (natural a b))
unfolding resistance_width reported μΩ ten over natural decimal ◌·f◌ ◌+f◌ ◌−f◌ neg
within_allowed a b h = record { apart = record { le = omega arith } }

pub resistance_narrow : {c : Case} → Bounds c → AtMost (resistance_width (reported μΩ (resistance_ends c))) (reported μΩ (resistance_ends c))
resistance_narrow b =
    let r = resistance_near b in
    rw r.is (within_allowed r.a r.b r.near)
