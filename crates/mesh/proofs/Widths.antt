-- The mesh voltage's ends are no further apart than allowed: 1/100,000 of ρ·Ki·IG/LT, with Ki of na and IG its upper end, plus 10 m_v.
use Prim.Native.Nat.{ℕ, ◌+◌, ◌-◌, ◌*◌, ◌≤◌, ◌<◌}
use mathlib.Core.Path.{◌≡◌, ap}
use native.Mathlib.{Omega.{arith}, Nat.{mul-le-mul_left}}
use lib.{Dec.{lit≤, lit<}, IntN.{pos}}
use Rattle.whole.proofs.Rounding.{floor_div_above, ceil_div_below}
use Rattle.interval.{specs.Operations.{natural}, proofs.Natural.{natural_product}}
use Rattle.exact.specs.{Fraction.{◌≤f◌, decimal, ◌+f◌, neg, ◌−f◌, ◌·f◌, inv, ◌÷f◌}, Reported.{ten, over, reported, AtMost}}
use Rattle.exact.proofs.{Order.{trans≤, refl≈, sym≈}, Quotients.{clamped}, Divisors.{cong÷}}
use Rattle.case.specs.{declared.Case.{Case}, Bounds.{Bounds}}
use Rattle.formulas.{specs.{Lengths.{LT}, Width.{m_v, μA, mesh_width}}, proofs.Positive.{decimal_pos, decimal_nonneg}}
use Rattle.lengths.{specs.Lengths.{lt_mm}, proofs.Lengths.{total_bounds, total_is}}
use Rattle.current.specs.Ends.{ig_ends}
use Rattle.drive.proofs.{Spans.{low}, Reference.{reference_width}}
use Rattle.mesh.specs.Ends.{mesh_ends}
use Rattle.mesh.proofs.{FactorSpans.{factor_span}, DrivenWidths.{driven_ends_lem}}

-- ---- times Km

-- L to U in m_v, U at most L/1,220,000 and 3 above L, times a to b in 10^−7, b at most 6 above a
mesh_near : (L U a b m M : ℕ) → 1220000 * U ≤ 1220001 * L + 3660000 → L ≤ U → b ≤ a + 6 → b ≤ 17652000 → M * 10000000 < U * b + 10000000
    → L * a < m * 10000000 + 10000000 → M * 10000000 ≤ m * 10000000 + 21 * L + 80000000
mesh_near L U a b m M h o w k u l =
    let j = U - L in
    let e : U ≡ L + j = omega arith in
    let few : 1220000 * j ≤ L + 3660000 = omega arith in
    let grown : j * b ≤ 15 * L + 53000000 = omega (arith, mul-le-mul_left j k, few) in
    omega (arith, ap (λ t. t * b) e, mul-le-mul_left L w, grown)

-- the same in volts
volts_near : (L m M : ℕ) → M * 10000000 ≤ m * 10000000 + 21 * L + 80000000
    → AtMost (decimal 21 7 ·f over (pos L) m_v +f decimal 8 3) (reported m_v (natural m M))
unfolding reported m_v ten over natural decimal ◌·f◌ ◌+f◌ ◌−f◌ neg
volts_near L m M h = record { apart = record { le = omega arith } }

-- ---- against the reference

-- L m_v over t mm
per_length : (n t L : ℕ) → 0 < t → L * (1000 * t) ≤ n → over (pos L) m_v ≤f over (pos n) (ten 9) ÷f decimal t 3
unfolding m_v ten over decimal inv ◌÷f◌ ◌·f◌
per_length n t L p h = record { le = omega (arith, ap (λ s. L * s) (clamped p), h) }

-- 21/10^7 of 1.24 is within 1/100,000
share_less : decimal 21 7 ·f decimal 124 2 ≤f decimal 1 5
unfolding decimal ◌·f◌
share_less = record { le = lit≤ tt }

extra_less : decimal 8 3 ≤f decimal 10 3
unfolding decimal
extra_less = record { le = lit≤ tt }

module _ {c : Case} (b : Bounds c) where
  mesh_apart : AtMost (decimal 21 7 ·f over (pos (driven_ends_lem b).L) m_v +f decimal 8 3) (reported m_v (mesh_ends c))
  unfolding mesh_ends
  mesh_apart =
      let v = driven_ends_lem b in
      let f = factor_span b in
      let p : 0 < 10000000 = lit< tt in
      rw (v.is, f.is, natural_product v.order f.order {den = 10000000} p)
      (volts_near v.L _ _
      (mesh_near v.L v.U f.a f.b _ _ v.near v.order f.near f.to (ceil_div_below (v.U * f.b) p)
      (floor_div_above (v.L * f.a) p)))

  pub mesh_narrow : AtMost (mesh_width c (reported μA (ig_ends c))) (reported m_v (mesh_ends c))
  unfolding mesh_width
  mesh_narrow =
      let t : 0 < lt_mm c = omega (arith, (total_bounds b).low) in
      let v = driven_ends_lem b in
      reference_width b (LT c) (decimal_nonneg 21 7) share_less extra_less
      (trans≤ (per_length (low b) (lt_mm c) v.L t v.below) (cong÷ (decimal_pos 3 t) (refl≈ _) (sym≈ (total_is c))).to)
      mesh_apart
