-- `argument_bottom` is the lower number of G; it fits by its bound.
use mathlib.Core.Path.{refl}
use native.Mathlib.Nat.{mul-le-mul_left}
use lib.Dec.{lit<}
use Rattle.interval.proofs.Fits.{fits_below, fits_product}
use Rattle.mesh.specs.Factor.{argument_bottom}
use Rattle.mesh.proofs.{Argument.{bottom_inside}}
use Rattle.mesh.proofs.factor.argument_bottom.Goals as goal

pub overflow_mul-result-2 : goal.overflow_mul-result-2
overflow_mul-result-2 c =
    fits_product (mul-le-mul_left 16 c.requires.depth.high) c.requires.dia.high (lit< tt)

pub overflow_mul-result-3 : goal.overflow_mul-result-3
unfolding argument_bottom
overflow_mul-result-3 c = fits_below (bottom_inside c.requires).high (lit< tt)

pub returns : goal.returns
unfolding argument_bottom
returns c = refl
