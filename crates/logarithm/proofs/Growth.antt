-- The logarithm's ends grow with its argument.
use Prim.Native.Nat.{ℕ, ◌*◌, ◌≤◌}
use native.Mathlib.Omega.{arith}
use lib.{Dec.{lit≤}, Signed.{◌≤ℤ◌}}
use Rattle.exact.{specs.{Fraction.{◌≤f◌, whole, ◌·f◌, inv, ◌÷f◌}, Depth.{work_depth}, Reported.{ten, reported}}, proofs.Order.{trans≤}}
use Rattle.exact.proofs.{Consistency.{proper_at}, Logarithm.{ln_rises, consistent_ln_of}}
use Rattle.enclosure.proofs.Counts.{over_le}
use Rattle.logarithm.specs.Ends.{Inside, ln_ends}
use Rattle.logarithm.proofs.{Ratio.{scaled}, LnEnds.{ratio_positive, ln_encloses}}

module _ {p q p' q' : ℕ} (hp : Inside p) (hq : Inside q) (hp' : Inside p') (hq' : Inside q') (h : p * q' ≤ p' * q) where
  ratio≤ : whole p ÷f whole q ≤f whole p' ÷f whole q'
  unfolding whole ◌·f◌ inv ◌÷f◌
  ratio≤ = omega (arith, scaled p' hq'.low p, scaled p hq.low p')

  -- the lower end of a logarithm is not above the upper end of a greater number's
  pub ln_grows : (ln_ends p q).lower ≤ℤ (ln_ends p' q').upper
  unfolding reported
  ln_grows =
      let greater = consistent_ln_of (ratio_positive hp'.low hq'.low) in
      over_le (ten 9)
      (trans≤ (ln_encloses hp hq).low
      (trans≤ (ln_rises (ratio_positive hp.low hq.low) ratio≤ work_depth).lowers
      (trans≤ (proper_at greater (lit≤ tt)).proper (ln_encloses hp' hq').high)))
