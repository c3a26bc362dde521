-- Every width of §5.8, computed by hand on the sample yard (§3.3), on that yard with twenty rods of 7.5 m along the perimeter, and on a
-- rectangle: a width made wider or narrower is refused here.
use Prim.Native.Nat.{ℕ, ◌+◌}
use mathlib.Core.{Bool.{Bool, true, ◌&&◌}, List.{List, [], ◌∷◌}}
use lib.{IntN.{pos}, Dec.{T}}
use mir.Facts.{and_yes}
use Rattle.whole.specs.Every.{Every}
use Rattle.interval.specs.declared.Interval.{Interval}
use Rattle.exact.specs.{Fraction.{Fraction, ◌≈f◌, whole, decimal, ◌+f◌, ◌·f◌, inv, ◌÷f◌}, Ends.{Ends}, Reported.{ten, over, reported}}
use Rattle.case.specs.declared.Case.{Case}
use Rattle.formulas.specs.{Lengths.{ρ, D, Lr, Lx, Ly, Lc, Lp, LR, LT, na}, Step.{LS}}
use Rattle.formulas.specs.Width.{m_v, μΩ, μA, billionths, factor_width, current_width, tolerable_width, resistance_width, rise_width}
use Rattle.formulas.specs.{Width.{reference_ki, mesh_width, step_width}, Yards.{grid, sample, rectangle}}
use Rattle.formulas.proofs.Known.{at_most, at_most_lem}

-- the sample with twenty rods of 7.5 m along the perimeter
abbrev rodded : Case
rodded = grid 1 400 11 11 20 7500 1

-- a pair by its lower end, which counts; the upper end stands a little above
abbrev from : ℕ → Interval
from n = record { lower = pos n; upper = pos (n + 50) }

-- the reported current: its upper end, 1908 A, counts
abbrev current : Ends
current = reported μA (record { lower = pos 1907000000; upper = pos 1908000000 })

record Worked : Type 0 where
  width : Fraction
  number : Fraction

abbrev worked : Fraction → Fraction → Worked
worked w n = record { width = w; number = n }

widths : List Worked
widths =
    -- 1,000 billionths
    worked (factor_width (reported billionths (from 1026183047))) (decimal 1 6)
    -- 1/500,000 of 1957.957 A, and 2 microamperes
    ∷ worked (current_width (reported μA (from 1957957000))) (decimal 3917914 9)
    -- 1/10,000 of 840.5 V, and 10 mV
    ∷ worked (tolerable_width (reported m_v (from 840500))) (decimal 9405 5)
    -- 1/10,000 of 2.776 ohms, and 2 micro-ohms
    ∷ worked (resistance_width (reported μΩ (from 2776000))) (decimal 2796 7)
    -- 1/2,000 of 5296.608 V, and 10 mV
    ∷ worked (rise_width (reported m_v (from 5296608))) (decimal 2658304 6)
    -- 1/100,000 of 400·2.272·1908/1540, and 10 mV
    ∷ worked (mesh_width sample current) (whole 32739904 ÷f whole 1540000000)
    -- 1/100,000 of 400·2.272·1908/1155, and 10 mV
    ∷ worked (step_width sample current) (whole 28889904 ÷f whole 1155000000)
    -- with rods: over 1690 and over 1282.5
    ∷ worked (mesh_width rodded current) (whole 34239904 ÷f whole 1690000000)
    ∷ worked (step_width rodded current) (whole 30164904 ÷f whole 1282500000)
    -- of IEEE Std 80-2013, B.3, na is 79/7 and Ki of it 81/35: 1/100,000 of 400·81/35·1908 over 2039 and over 1567.25, and 10 mV
    ∷ worked (mesh_width rectangle current) (whole 665921 ÷f whole 35682500)
    ∷ worked (step_width rectangle current) (whole 2333459 ÷f whole 109707500)
    ∷ []

-- a width is its number: the test that is computed for all of them together
equal : Worked → Bool
equal w = at_most w.width w.number && at_most w.number w.width

equal_all : List Worked → Bool
equal_all [] = true
equal_all (w ∷ ws) = equal w && equal_all ws

each_equal : (ws : List Worked) → T (equal_all ws) → Every (λ w. w.width ≈f w.number) ws
unfolding equal equal_all
each_equal [] t = tt
each_equal (w ∷ ws) t =
    let h = and_yes (equal w) (equal_all ws) t in
    let l = and_yes (at_most w.width w.number) (at_most w.number w.width) h.0 in
    (record { to = at_most_lem _ _ l.0; fro = at_most_lem _ _ l.1 }, each_equal ws h.1)

as_worked : Every (λ w. w.width ≈f w.number) widths
unfolding equal equal_all at_most widths factor_width current_width tolerable_width resistance_width rise_width mesh_width step_width reference_ki ρ
    D Lr Lx Ly Lc Lp LR LT na LS m_v μΩ μA billionths reported ten over inv whole decimal ◌+f◌ ◌·f◌ ◌÷f◌
as_worked = each_equal widths tt
