-- `driven` divides ρ·Ki·IG, which is within 64 bits, by LS.
use Prim.Native.Nat.{◌*◌}
use native.Mathlib.Omega.{arith}
use lib.Dec.{lit<}
use Rattle.interval.proofs.{Fits.{fits_below}, Rules.{lits}, NumeralSpans.{numeral_quotient_fits}}
use Rattle.drive.proofs.Spans.{drive_span}
use Rattle.step.specs.Ends.{driven_ends}
use Rattle.step.proofs.{Spans.{length_bounds, length_span}}
use Rattle.step.proofs.driven.Goals as goal

pub overflow_mul-length : goal.overflow_mul-length
overflow_mul-length c = rw c.requires.length_len (fits_below {m = 50 * 574000000} (omega (arith, (length_bounds c.requires.bounds).high)) (lit< tt))

pub point-requires : goal.point-requires
point-requires c = rw c.requires.length_len (omega (arith, (length_bounds c.requires.bounds).high))

pub quotient-requires : goal.quotient-requires
quotient-requires c =
    let p = c.requires in
    let fits = numeral_quotient_fits {d = 1} (lits tt) (drive_span p.bounds) (length_span p.bounds) in
    rw (c.point.ensures, p.length_len, p.drive_value) (record { pos_bound = fits.0; scale_bound = fits.1 })

pub returns : goal.returns
unfolding driven_ends
returns c = let p = c.requires in rw (c.quotient.ensures, c.point.ensures, p.length_len, p.drive_value)
