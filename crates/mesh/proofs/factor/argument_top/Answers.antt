-- `argument_top` is the upper number of G; it fits by its bound.
use mathlib.Core.Path.{refl}
use native.Mathlib.Nat.{mul-le-mul, mul-le-mul_left}
use lib.Dec.{lit<}
use Rattle.interval.proofs.Fits.{fits_below, fits_product}
use Rattle.mesh.specs.Factor.{argument_top}
use Rattle.mesh.proofs.{Argument.{squares_high, top_inside}}
use Rattle.mesh.proofs.factor.argument_top.Goals as goal

pub overflow_mul-result-3 : goal.overflow_mul-result-3
overflow_mul-result-3 c = fits_product c.requires.space.high c.requires.space.high (lit< tt)

pub overflow_mul-result-4 : goal.overflow_mul-result-4
overflow_mul-result-4 c = fits_product c.requires.depth.high c.requires.depth.high (lit< tt)

pub overflow_mul-result-5 : goal.overflow_mul-result-5
overflow_mul-result-5 c =
    fits_below (mul-le-mul_left 4 (mul-le-mul c.requires.depth.high c.requires.depth.high)) (lit< tt)

pub overflow_add-result-2 : goal.overflow_add-result-2
overflow_add-result-2 c = fits_below (squares_high c.requires) (lit< tt)

pub overflow_mul-result-6 : goal.overflow_mul-result-6
unfolding argument_top
overflow_mul-result-6 c = fits_below (top_inside c.requires).high (lit< tt)

pub returns : goal.returns
unfolding argument_top
returns c = refl
