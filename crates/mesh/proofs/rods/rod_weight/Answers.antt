-- `rod_weight` keeps within 64 bits by the spans of its parts.
use native.Mathlib.Omega.{arith}
use lib.Dec.{lit≤, lit<}
use Rattle.interval.proofs.{Sizes.{size_point}, Span.{span_size, span_divisor}}
use Rattle.mesh.specs.Ends.{rod_weight}
use Rattle.mesh.proofs.{LengthSpans.{diagonal_span, rodlen_span, share_span}}
use Rattle.mesh.proofs.rods.rod_weight.Goals as goal

pub quotient-share-requires : goal.quotient-share-requires
quotient-share-requires c =
    rw (c.diagonal.ensures, c.point.ensures)
    (record {
      pos_bound = span_divisor (lit≤ tt) (diagonal_span c.requires);
      scale_bound = (lit< tt, omega (arith, span_size (rodlen_span c.requires)));
    })

pub sum-requires : goal.sum-requires
sum-requires c =
    rw (c.point-2.ensures, c.quotient-share.ensures, c.diagonal.ensures, c.point.ensures, size_point)
    (omega (arith, span_size (share_span c.requires)))

pub returns : goal.returns
unfolding rod_weight
returns c = cc
