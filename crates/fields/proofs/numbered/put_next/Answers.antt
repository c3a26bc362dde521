-- `put_next` writes a byte and a text.
use mathlib.Core.{Path.{refl, ◌∙◌}, List.{◌∷◌}}
use native.Mathlib.Omega.{arith}
use lib.ListN.{length-set}
use Rattle.writing.{specs.Decimal.{decimal}, proofs.Filling.{Filling, filling_start, filling_rest, byte_step, put_size}}
use Rattle.fields.proofs.numbered.put_next.Goals as goal
use Rattle.fields.proofs.numbered.put_next.Goals.{Start}

pub shape_of-buf : goal.shape_of-buf
shape_of-buf c =
    let s = length-set c.args.buf.now c.args.at 44 in
    put_size (omega (arith, c.requires)) c.put_wide.ensures ∙ s

whole : (s : Start)
    → Filling s.args.buf.now s.args.at (44 ∷ decimal s.args.n) s.args.buf.now s.args.at (44 ∷ decimal s.args.n)
whole s = filling_start _ _ _ (omega (arith, s.requires))

pub returns : goal.returns
returns c =
    filling_rest (byte_step (whole (goal.at.returns c).Start) 44 (decimal c.args.n) refl) c.put_wide.ensures
