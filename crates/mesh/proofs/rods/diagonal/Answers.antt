-- `diagonal` is the pair of the root and the next number.
use native.Mathlib.Nat.{mul-le-mul_right}
use lib.Dec.{lit<}
use Rattle.interval.proofs.Fits.{fits_below, fits_product}
use Rattle.enclosure.proofs.SquareRoot.{root_pair_lem}
use Rattle.lengths.proofs.Lengths.{x_bounds, y_bounds}
use Rattle.mesh.specs.Ends.{diagonal_ends}
use Rattle.mesh.proofs.{LengthSpans.{squares_bounds}}
use Rattle.mesh.proofs.rods.diagonal.Goals as goal

pub overflow_mul-x : goal.overflow_mul-x
overflow_mul-x c =
    let h = (x_bounds c.requires).high in
    rw c.side_x-x.ensures (fits_product h h (lit< tt))

pub overflow_mul-y : goal.overflow_mul-y
overflow_mul-y c =
    let h = (y_bounds c.requires).high in
    rw c.side_y-y.ensures (fits_product h h (lit< tt))

pub overflow_add-x : goal.overflow_add-x
overflow_add-x c = rw (c.side_x-x.ensures, c.side_y-y.ensures) (fits_below (squares_bounds c.requires).high (lit< tt))

pub overflow_mul-x-2 : goal.overflow_mul-x-2
overflow_mul-x-2 c =
    rw (c.side_x-x.ensures, c.side_y-y.ensures)
    (fits_below (mul-le-mul_right 1000000 (squares_bounds c.requires).high) (lit< tt))

pub returns : goal.returns
unfolding diagonal_ends
returns c = rw (c.side_x-x.ensures, c.side_y-y.ensures) at (root_pair_lem c.root_ends.ensures)
