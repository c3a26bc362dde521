-- `layered` is Q with a layer; the bounds of layer and soil keep it within 64 bits.
use Prim.Native.Nat.{◌*◌, ◌+◌}
use native.Mathlib.Omega.{arith}
use lib.IntN.{pos}
use Rattle.interval.{specs.Operations.{point, difference_of}, proofs.Sizes.{size_point, size_outward}}
use Rattle.tolerable.specs.Ends.{layered}
use Rattle.tolerable.proofs.{Layer.{layer_high, gap_size}}
use Rattle.tolerable.proofs.layered.Goals as goal

pub difference-gap-requires : goal.difference-gap-requires
difference-gap-requires c =
    rw (c.point.ensures, c.point-2.ensures, size_point (90000 * c.args.c.layer), size_point (90000 * c.args.c.soil))
    (omega (arith, layer_high c.requires, c.requires.soil.high))

pub outward-requires : goal.outward-requires
outward-requires c =
    rw (c.difference-gap.ensures, c.point.ensures, c.point-2.ensures)
    (omega arith, omega (arith, gap_size c.requires))

pub difference-requires : goal.difference-requires
difference-requires c =
    let g = difference_of (point (pos (90000 * c.args.c.layer))) (point (pos (90000 * c.args.c.soil))) in
    rw (
      c.outward.ensures,
      c.difference-gap.ensures,
      c.point.ensures,
      c.point-2.ensures,
      c.point-3.ensures,
      size_point (1000 * c.args.c.layer),
    )
    (omega (arith, size_outward g (2 * c.args.c.thick + 90), gap_size c.requires, layer_high c.requires))

pub returns : goal.returns
unfolding layered
returns c = cc
