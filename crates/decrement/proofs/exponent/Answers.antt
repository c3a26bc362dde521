-- `exponent` keeps within 32 and 64 bits by the bounds of what is asked.
use native.Mathlib.Omega.{arith}
use lib.Dec.{lit<}
use Rattle.interval.proofs.SpanFits.{scaled_fits, outward_fits}
use Rattle.enclosure.proofs.Constants.{π_span}
use Rattle.formulas.proofs.Decrement.{hz_bounds}
use Rattle.decrement.specs.Ends.{exponent_ends}
use Rattle.decrement.proofs.{Spans.{turns_bounds, over_pos, scaled_span}}
use Rattle.decrement.proofs.exponent.Goals as goal

pub overflow_mul-c : goal.overflow_mul-c
overflow_mul-c c = record { fits = omega (arith, (hz_bounds c.requires).high) }

pub overflow_mul-c-2 : goal.overflow_mul-c-2
overflow_mul-c-2 c = let h = c.requires in record { fits = omega (arith, (turns_bounds h).high, h.clear.high) }

pub overflow_cast-c : goal.overflow_cast-c
overflow_cast-c c = let h = c.requires in record { fits = omega (arith, (turns_bounds h).high, h.clear.high) }

pub scaled-requires : goal.scaled-requires
scaled-requires c =
    let h = c.requires in
    rw c.pi.ensures (scaled_fits 720000 (lit< tt) (lit< tt) (omega (arith, (turns_bounds h).high, h.clear.high))
    π_span)

pub overflow_mul-c-3 : goal.overflow_mul-c-3
overflow_mul-c-3 c = let h = c.requires in record { fits = omega (arith, h.xr.high) }

pub outward-requires : goal.outward-requires
outward-requires c =
    let h = c.requires in
    rw (c.scaled.ensures, c.pi.ensures)
    (outward_fits (over_pos h) (lit< tt) (scaled_span _ (omega (arith, (turns_bounds h).high, h.clear.high))))

pub returns : goal.returns
unfolding exponent_ends
returns c =
    rw (c.outward.ensures, c.scaled.ensures, c.pi.ensures)
