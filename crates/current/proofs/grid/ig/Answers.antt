-- `ig` scales the factor by fault·split, within 64 bits by the factor's span.
use native.Mathlib.Omega.{arith}
use lib.Dec.{lit<}
use Rattle.interval.proofs.SpanFits.{scaled_fits, outward_fits}
use Rattle.decrement.proofs.Widths.{factor_span}
use Rattle.current.specs.Ends.{ig_ends}
use Rattle.current.proofs.{GridCurrent.{entering_bounds, entering_span}}
use Rattle.current.proofs.grid.ig.Goals as goal

pub overflow_mul-c : goal.overflow_mul-c
overflow_mul-c c = record { fits = omega (arith, (entering_bounds c.requires.bounds).high) }

pub overflow_cast-c : goal.overflow_cast-c
overflow_cast-c c = record { fits = omega (arith, (entering_bounds c.requires.bounds).high) }

pub scaled-requires : goal.scaled-requires
scaled-requires c =
    rw c.requires.factor_value (scaled_fits 80000000 (lit< tt) (lit< tt) (entering_bounds c.requires.bounds).high (factor_span c.requires.bounds))

pub outward-requires : goal.outward-requires
outward-requires c =
    rw (c.scaled.ensures, c.requires.factor_value) (outward_fits (lit< tt) (lit< tt) (entering_span c.requires.bounds))

pub returns : goal.returns
unfolding ig_ends
returns c = rw (c.outward.ensures, c.scaled.ensures, c.requires.factor_value)
