-- `Interval::product` rounds the corners outward.
use native.Mathlib.Nat.{lt_of_le_of_lt}
use Rattle.interval.specs.Operations.{product_of}
use Rattle.interval.proofs.{Sizes.{size_corners}}
use Rattle.interval.proofs.Interval.product.Goals as goal

pub outward-requires : goal.outward-requires
outward-requires c =
    rw c.corners.ensures (c.requires.0, lt_of_le_of_lt (size_corners c.args.self c.args.other) c.requires.1)

pub returns : goal.returns
unfolding product_of
returns c = cc
