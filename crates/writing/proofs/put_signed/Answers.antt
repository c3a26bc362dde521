-- `put_signed` writes the sign and the magnitude: the bits, inverted or as they are, are those of proofs/Signed.antt.
use mathlib.Core.Path.{◌∙◌}
use native.Mathlib.Omega.{arith}
use lib.{ListN.{length-set}, Signed.{mag}}
use mir.{Syntax.{w64}, Val.{Fits}}
use Rattle.writing.specs.Decimal.{signed}
use Rattle.writing.proofs.Signed.{turned, turned_text, straight, straight_text}
use Rattle.writing.proofs.Filling.{Filling, filling_start, filling_room, filling_rest, byte_room, byte_step, put_size}
use Rattle.writing.proofs.put_signed.Goals as goal
use Rattle.writing.proofs.put_signed.Goals.{Start}

magnitude_fits : (s : Start) → Fits w64 (mag s.args.z)
magnitude_fits s = record { fits = omega (arith, s.ranges.z.sfits) }

whole : (s : Start)
    → Filling s.args.buf.now s.args.at (signed s.args.z) s.args.buf.now s.args.at (signed s.args.z)
whole s = filling_start _ _ _ s.requires

pub bounds-buf-at : goal.bounds-buf-at
bounds-buf-at c =
    byte_room (whole (goal.at.bounds-buf-at c).Start) 45 _ (turned_text c.ranges.z c.if-z-lt0.true)

pub overflow_cast-z : goal.overflow_cast-z
overflow_cast-z c = rw (turned c.ranges.z c.if-z-lt0.true) (tt, magnitude_fits (goal.at.overflow_cast-z c).Start)

pub overflow_add-z : goal.overflow_add-z
overflow_add-z c =
    rw (turned c.ranges.z c.if-z-lt0.true) (record { fits = omega (arith, c.ranges.z.sfits) })

pub put_wide-requires : goal.put_wide-requires
put_wide-requires c =
    filling_room (byte_step (whole (goal.at.put_wide-requires c).Start) 45 _ (turned_text c.ranges.z c.if-z-lt0.true))

pub shape_of-buf-then-z-lt0 : goal.shape_of-buf-then-z-lt0
shape_of-buf-then-z-lt0 c =
    put_size (filling_room (byte_step (whole (goal.at.shape_of-buf-then-z-lt0 c).Start) 45 _ (turned_text c.ranges.z c.if-z-lt0.true))) c.put_wide.ensures ∙ length-set c.args.buf.now c.args.at 45

pub returns-then-z-lt0 : goal.returns-then-z-lt0
returns-then-z-lt0 c =
    filling_rest (byte_step (whole (goal.at.returns-then-z-lt0 c).Start) 45 _ (turned_text c.ranges.z c.if-z-lt0.true)) c.put_wide.ensures

pub overflow_cast-z-2 : goal.overflow_cast-z-2
overflow_cast-z-2 c = rw (straight c.ranges.z c.if-z-lt0.false) (tt, magnitude_fits (goal.at.overflow_cast-z-2 c).Start)

pub put_wide-requires-2 : goal.put_wide-requires-2
put_wide-requires-2 c = rw (straight_text c.ranges.z c.if-z-lt0.false) at c.requires

pub returns : goal.returns
returns c =
    rw (straight_text c.ranges.z c.if-z-lt0.false) c.put_wide-2.ensures
