-- Cs (§6.4) computed on examples.
use Rattle.std.proofs.Common.{lit≤}
use Rattle.exact.specs.Fraction.{◌≈f◌, whole, decimal, ◌+f◌, neg, ◌−f◌, ◌·f◌, inv, ◌÷f◌}
use Rattle.formulas.specs.{Lengths.{ρ}, Tolerable.{ρs, hs}, Yards.{sample, yard}}
use Rattle.working.specs.Surface.{Cs}

-- 102 mm of 2500 ohm metres on soil of 400, which IEEE Std 80's Annex B prints as 0.74
layered : Cs sample ≈f whole 26 ÷f whole 35
unfolding Cs ρ ρs hs whole decimal neg inv ◌+f◌ ◌−f◌ ◌·f◌ ◌÷f◌
layered = record { to = record { le = lit≤ tt }; fro = record { le = lit≤ tt } }

bare : Cs (yard 100 50 1000 3180 600 10 1) ≈f whole 1
unfolding Cs whole
bare = record { to = record { le = lit≤ tt }; fro = record { le = lit≤ tt } }
