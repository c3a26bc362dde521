-- `conductor_size` is the smallest number for the rounded square.
use native.Mathlib.Omega.{arith}
use Rattle.formulas.proofs.Size.{duty_bound}
use Rattle.current.proofs.{GridCurrent.{upper_bounds}, SquareLoad.{load_bound}, Smallest.{size_is}}
use Rattle.current.proofs.size.conductor_size.Goals as goal

pub square_load-requires : goal.square_load-requires
square_load-requires c =
    let b = c.requires.bounds in
    rw c.load.ensures (record { x_bound = duty_bound b (upper_bounds b); ms_bound = omega (arith, b.wire.high) })

pub smallest_square-requires : goal.smallest_square-requires
smallest_square-requires c =
    let b = c.requires.bounds in
    rw (c.square_load.ensures, c.load.ensures) (load_bound _ _ (duty_bound b (upper_bounds b)) (omega arith))

pub returns : goal.returns
returns c =
    size_is c.args.c _ c.smallest_square.result
    (rw (c.square_load.ensures, c.load.ensures) at c.smallest_square.ensures)
