-- `driven` divides ρ·Ki·IG by LM.
use native.Mathlib.Omega.{arith}
use lib.Dec.{lit<}
use Rattle.interval.proofs.SpanFits.{quotient_fits}
use Rattle.drive.proofs.Spans.{drive_span}
use Rattle.mesh.specs.Ends.{driven_ends}
use Rattle.mesh.proofs.{LengthSpans.{lm_span, lm_low}}
use Rattle.mesh.proofs.driven.Goals as goal

pub quotient-requires : goal.quotient-requires
quotient-requires c =
    let b = c.requires.bounds in
    let fits = quotient_fits (lit< tt) (lit< tt) (omega (arith, lm_low b)) (drive_span b) (lm_span b) in
    rw (c.requires.length_len, c.requires.drive_value) (record { pos_bound = fits.0; scale_bound = fits.1 })

pub returns : goal.returns
unfolding driven_ends
returns c = rw (c.quotient.ensures, c.requires.length_len, c.requires.drive_value)
