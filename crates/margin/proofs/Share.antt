-- The exact voltage is at or below its share of the exact tolerable voltage.
use Prim.Native.Nat.{ℕ, ◌*◌, ◌<◌}
use mathlib.Core.Path.{◌≡◌, refl, ap}
use native.Mathlib.Omega.{arith}
use lib.IntN.{pos, ◌*ℤ◌}
use Rattle.whole.{specs.Whole.{ceil_div}, proofs.Rounding.{ceil_div_above}}
use Rattle.interval.specs.{declared.Interval.{Interval}, Operations.{scaled_of}}
use Rattle.exact.specs.{Fraction.{◌≤f◌, ◌≈f◌}, Exact.{Exact, exactly, ◌·x◌, AtOrBelow}, Depth.{Consistent}, Reported.{ten, over, reported}}
use Rattle.exact.proofs.{Consistency.{consistent_exactly, consistent_product}, Verdict.{at_or_below}}
use Rattle.enclosure.{specs.Enclosure.{Encloses}, proofs.{Basics.{holds}, Multiples.{encloses_multiple}}}
use Rattle.formulas.specs.Width.{m_v}
use Rattle.margin.specs.{Margin.{whole, margin}, Meaning.{share}}
use Rattle.margin.proofs.Least.{share_parts}

module _ (v : ℕ) {t : ℕ} (p : 0 < t) where
  share_is : share (margin v t) ≈f over (pos (ceil_div (whole * v) t)) (ten 3)
  unfolding share over ten
  share_is =
      let e = ap (λ n. n * 1000) (share_parts v t) in
      record { to = record { le = omega (arith, e) }; fro = record { le = omega (arith, e) } }

  upper_below : over (pos v) m_v ≤f over (pos t *ℤ pos (ceil_div (whole * v) t)) (ten 6)
  unfolding m_v over ten
  upper_below = record { le = omega (arith, ceil_div_above (whole * v) p) }

  pub share_below : {x y : Exact} {i j : Interval} → Consistent x → Consistent y → Encloses x m_v i → Encloses y m_v j → i.upper ≡ pos v
      → j.lower ≡ pos t → AtOrBelow x (exactly (share (margin v t)) ·x y)
  unfolding m_v ten reported scaled_of
  share_below cx cy ex ey upper lower =
      at_or_below (holds cx ex)
      (holds (consistent_product (consistent_exactly _) cy) (encloses_multiple (ceil_div (whole * v) t) (ten 3) (ten 6) refl share_is cy ey))
      (rw (upper, lower) upper_below)
