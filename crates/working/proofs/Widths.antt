-- The pairs of a working are no wider than allowed.
use Prim.Native.Nat.{ℕ, ◌+◌, ◌*◌, ◌^◌, ◌≤◌}
use native.Mathlib.{Omega.{arith}, Nat.{mul-le-mul_right}}
use lib.IntN.{pos}
use Rattle.interval.{specs.{declared.Interval.{Interval}, Operations.{natural, point}, Span.{Span}}, proofs.Span.{span_point}}
use Rattle.exact.specs.{Fraction.{decimal, ◌+f◌, neg, ◌−f◌, ◌·f◌}, Reported.{Scale, ten, over, reported, AtMost}}
use Rattle.case.specs.{declared.Case.{Case}, Bounds.{Bounds}}
use Rattle.formulas.specs.Width.{m_v}
use Rattle.mesh.{specs.Ends.{lm_ends, driven_ends}, proofs.DrivenWidths.{lm_relative, driven_ends_lem}}
use Rattle.working.specs.Working.{millionth, hundred_thousandth, driven_width}

-- ---- a share of the lower end: of ends a and b, 10^e times their difference is at most a

module _ (u : Scale) (a b : ℕ) where
  share_near : (e : ℕ) → (10 ^ e) * b ≤ (10 ^ e + 1) * a → AtMost (decimal 1 e ·f over (pos a) u) (reported u (natural a b))
  unfolding reported natural over decimal ◌·f◌ ◌+f◌ ◌−f◌ neg
  share_near e h = record { apart = record { le = omega (arith, mul-le-mul_right (u.count * u.count) h) } }

-- ends at most w apart, from 1,000,000·w on
pub millionth_narrow : (u : Scale) {i : Interval} {l h w : ℕ} → w * 10 ^ 6 ≤ l → Span i l h w
    → AtMost (millionth (reported u i)) (reported u i)
unfolding millionth reported natural
millionth_narrow u few s = rw s.is (share_near u s.a s.b 6 (omega (arith, s.near, s.from)))

-- from 100,000·w on
pub hundred_thousandth_narrow : (u : Scale) {i : Interval} {l h w : ℕ} → w * 10 ^ 5 ≤ l → Span i l h w
    → AtMost (hundred_thousandth (reported u i)) (reported u i)
unfolding hundred_thousandth reported natural
hundred_thousandth_narrow u few s = rw s.is (share_near u s.a s.b 5 (omega (arith, s.near, s.from)))

pub point_narrow : (u : Scale) (n : ℕ) → AtMost (millionth (reported u (point (pos n)))) (reported u (point (pos n)))
point_narrow u n = millionth_narrow u (omega arith) (span_point n {l = n} {h = n} (omega arith) (omega arith))

-- LM's, at most 1/3,535,000 apart
pub lm_narrow : {c : Case} → Bounds c → AtMost (millionth (reported (ten 6) (lm_ends c))) (reported (ten 6) (lm_ends c))
unfolding millionth reported natural
lm_narrow b = let r = lm_relative b in rw r.is (share_near (ten 6) r.a r.b 6 (omega (arith, r.near)))

-- ---- ρ·Ki·IG/LM

volts_near : (a b : ℕ) → 1000000 * b ≤ 1000001 * a + 3000000 → AtMost (driven_width (reported m_v (natural a b))) (reported m_v (natural a b))
unfolding driven_width reported natural m_v ten over decimal ◌·f◌ ◌+f◌ ◌−f◌ neg
volts_near a b h = record { apart = record { le = omega arith } }

pub driven_narrow : {c : Case} → Bounds c → AtMost (driven_width (reported m_v (driven_ends c))) (reported m_v (driven_ends c))
driven_narrow b = let v = driven_ends_lem b in rw v.is (volts_near v.L v.U (omega (arith, v.near, v.order)))
