-- The size by the upper end of any pair that reports the decrement factor: such an end is known but for the width, and the size grows with
-- it.
use Prim.Native.Nat.{ℕ, ◌+◌, ◌*◌, ◌^◌, ◌≤◌, ◌<◌}
use mathlib.Core.Path.{◌≡◌}
use native.Mathlib.{Omega.{arith}, Decide.{dec_le}, Nat.{mul-le-mul_left, mul-le-mul_right, mul-le-mul}}
use lib.{IntN.{ℤ, pos, negsuc, nat_abs}, Dec.{lit≤}}
use Rattle.interval.specs.{declared.Interval.{Interval}, Operations.{natural}}
use Rattle.exact.specs.{Fraction.{◌≤f◌, decimal, ◌+f◌, neg, ◌−f◌}, Ends.{Ends}, Reported.{ten, over, reported, Reports}}
use Rattle.exact.{specs.Depth.{work_depth, Within}, proofs.{Powers.{square}, Order.{trans≤}}}
use Rattle.case.specs.{declared.Case.{Case}, Bounds.{Between}}
use Rattle.formulas.specs.{Decrement.{Df}, Size.{duty, size}, Width.{billionths, factor_width}}
use Rattle.formulas.proofs.Size.{size_enough, size_least}

-- ---- the size grows with the factor

module _ (c : Case) {f g : ℕ} (l : f ≤ g) where
  duty_grows : duty c f ^ 2 * c.wire ≤ duty c g ^ 2 * c.wire
  unfolding duty
  duty_grows =
      let d : duty c f ≤ duty c g = mul-le-mul_right _ (mul-le-mul_left c.fault l) in
      mul-le-mul_right c.wire (omega (arith, mul-le-mul d d, square (duty c f), square (duty c g)))

  size_grows : size c f ≤ size c g
  size_grows = go (dec_le (size c f) (size c g))
    where
      go : Dec (size c f ≤ size c g) → size c f ≤ size c g
      go (yes h) = h
      go (no h) =
          let m : size c g < size c f = omega arith in
          absurd (omega (arith, size_least c f (size c g) m, duty_grows, size_enough c g))

-- ---- where the upper end of a pair lies

-- of a pair whose lower end is at most b, by the width: 1,000 billionths
upper_between : (a b : ℕ) (l u : ℤ) (A : Ends) → over (pos a) (ten 9) ≤f over u (ten 9) → over l (ten 9) ≤f over (pos b) (ten 9)
    → over u (ten 9) −f over l (ten 9) ≤f factor_width A → Between a (nat_abs u) (b + 1000)
unfolding factor_width over ten decimal ◌−f◌ ◌+f◌ neg
upper_between a b l (pos n) A h k w = record { low = omega arith; high = omega arith }
upper_between a b l (negsuc n) A h k w = absurd (omega arith)

-- the size at both bounds of the upper end is the size between them
pub size_reported : (c : Case) (a b : ℕ) {kcmil : ℕ} → Within (Df c work_depth) (reported billionths (natural a b)) → size c a ≡ kcmil
    → size c (b + 1000) ≡ kcmil → (pair : Interval) → Reports (Df c) billionths factor_width pair → size c (nat_abs pair.upper) ≡ kcmil
unfolding billionths reported natural
size_reported c a b w e e' pair r =
    let s = upper_between a b pair.lower pair.upper (reported billionths pair) (trans≤ w.low (r.holds.right work_depth (lit≤ tt)))
    (trans≤ (r.holds.left work_depth (lit≤ tt)) w.high) r.narrow.apart in
    omega (arith, size_grows c s.low, size_grows c s.high, e, e')
