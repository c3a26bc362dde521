-- `weighed_length` keeps within 64 bits by the spans of its parts.
use native.Mathlib.{Omega.{arith}, Nat.{mul-le-mul, mul-le-mul_left}}
use lib.Dec.{lit<}
use Rattle.interval.proofs.{Fits.{fits_below}, Span.{span_size}}
use Rattle.lengths.proofs.Lengths.{conductor_bounds, rod_bound}
use Rattle.mesh.specs.Ends.{weighed_length}
use Rattle.mesh.proofs.{LengthSpans.{weight_span, rods_point, rods_span, conductors_span}}
use Rattle.mesh.proofs.rods.weighed_length.Goals as goal

pub point-requires : goal.point-requires
point-requires c = rw c.lr.ensures (omega (arith, rod_bound c.requires))

pub product-rods-requires : goal.product-rods-requires
product-rods-requires c =
    rw (c.point.ensures, c.lr.ensures, c.rod_weight.ensures)
    (lit< tt, omega (arith, mul-le-mul (span_size (weight_span c.requires)) (span_size (rods_point c.requires))))

pub overflow_mul-lc : goal.overflow_mul-lc
overflow_mul-lc c =
    rw c.lc.ensures (fits_below (mul-le-mul_left 1000 (conductor_bounds c.requires).high) (lit< tt))

pub point-requires-2 : goal.point-requires-2
point-requires-2 c =
    rw c.lc.ensures (omega (arith, (conductor_bounds c.requires).high))

pub sum-requires : goal.sum-requires
sum-requires c =
    rw (
      c.point-2.ensures,
      c.lc.ensures,
      c.product-rods.ensures,
      c.point.ensures,
      c.lr.ensures,
      c.rod_weight.ensures,
    )
    (omega (arith, span_size (conductors_span c.requires), span_size (rods_span c.requires)))

pub returns : goal.returns
unfolding weighed_length
returns c = cc
