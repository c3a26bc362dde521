-- `floor_div`: the bits of a number below 0 are inverted, divided, and inverted again.
use Prim.Native.Nat.{◌-◌, ◌/◌, ◌<◌, ◌^◌}
use mathlib.Core.{Path.{◌≡◌, sym, ap, ◌∙◌}, Bool.{true, false}}
use native.Mathlib.{Nat.{lt_of_le_of_lt, div-le_self}}
use lib.{IntN.{pos}, Signed.{mag, lt_z}}
use mir.{Syntax.{w64}, Val.{to_z, of_z}, Facts.{to_z-of_z, to_z_pos}}
use Rattle.whole.specs.Whole.{flip_z, floor_z}
use Rattle.whole.proofs.{Bits.{read, flipped, below_zero, not_below_zero}}
use Rattle.whole.proofs.floor_div.Goals as goal
use Rattle.whole.proofs.floor_div.Goals.{Start}

module _ (s : Start) where
  quotient_small : mag s.args.a / s.args.d < 2 ^ 63
  quotient_small = lt_of_le_of_lt (div-le_self _ _) s.ranges.a.sfits

  turned : lt_z (read s.args.a) (pos 0) ≡ true → to_z w64 (18446744073709551615 - of_z w64 s.args.a) ≡ pos (mag s.args.a)
  turned h = flipped s.args.a s.ranges.a ∙ ap flip_z (below_zero s.args.a s.ranges.a h)

  straight : lt_z (read s.args.a) (pos 0) ≡ false → read s.args.a ≡ pos (mag s.args.a)
  straight h = to_z-of_z s.ranges.a ∙ not_below_zero s.args.a s.ranges.a h

pub returns-then-a-lt0 : goal.returns-then-a-lt0
unfolding floor_z
returns-then-a-lt0 c =
    let q = mag c.args.a / c.args.d in
    rw (turned (goal.at.returns-then-a-lt0 c).Start c.if-a-lt0.true)
    (flipped (pos q) (record { sfits = quotient_small (goal.at.returns-then-a-lt0 c).Start })
    ∙ ap (λ z. floor_z z c.args.d) (sym (below_zero c.args.a c.ranges.a c.if-a-lt0.true)))

pub returns-else-a-lt0 : goal.returns-else-a-lt0
unfolding floor_z
returns-else-a-lt0 c =
    rw (straight (goal.at.returns-else-a-lt0 c).Start c.if-a-lt0.false)
    (to_z_pos w64 (quotient_small (goal.at.returns-else-a-lt0 c).Start)
    ∙ ap (λ z. floor_z z c.args.d) (sym (not_below_zero c.args.a c.ranges.a c.if-a-lt0.false)))
