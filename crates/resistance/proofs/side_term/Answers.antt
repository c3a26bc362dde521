-- `side_term` is s by the two counts.
use native.Mathlib.Omega.{arith}
use lib.Dec.{lit<}
use borrow.Author.Tests.{eq-eqb, ne_eqb}
use Rattle.interval.proofs.Fits.{fits_product, fits_triple}
use Rattle.enclosure.proofs.SquareRoot.{root_pair_lem}
use Rattle.lengths.proofs.Lengths.{x_bounds, y_bounds}
use Rattle.resistance.specs.Ends.{side_ends}
use Rattle.resistance.proofs.side_term.Goals as goal

pub overflow_mul-x : goal.overflow_mul-x
overflow_mul-x c =
    let x = x_bounds c.requires in
    omega arith

pub point-requires : goal.point-requires
point-requires c =
    let x = x_bounds c.requires in
    omega arith

pub returns-then-c : goal.returns-then-c
unfolding side_ends
returns-then-c c = rw (eq-eqb _ _ c.if-c.true) (cc)

pub overflow_mul-x-2 : goal.overflow_mul-x-2
overflow_mul-x-2 c =
    let b = c.requires in
    let x = x_bounds b in
    let y = y_bounds b in
    fits_product {m = 720000} {n = 720000} (omega arith) (omega arith) (lit< tt)

pub overflow_mul-x-3 : goal.overflow_mul-x-3
overflow_mul-x-3 c =
    let b = c.requires in
    let x = x_bounds b in
    let y = y_bounds b in
    fits_triple {m = 720000} {n = 720000} {o = 1000000} (omega arith) (omega arith) (omega arith) (lit< tt)

pub returns : goal.returns
unfolding side_ends
returns c = rw (ne_eqb _ _ c.if-c.false) (cc (root_pair_lem c.root_ends.ensures))
