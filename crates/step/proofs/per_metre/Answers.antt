-- `per_metre` is a quotient of two whole numbers.
use native.Mathlib.Omega.{arith}
use Rattle.interval.proofs.{Span.{span_point}, Rules.{lits}, NumeralSpans.{numeral_quotient_fits}}
use Rattle.step.specs.Ends.{per_metre}
use Rattle.step.proofs.per_metre.Goals as goal

pub quotient-requires : goal.quotient-requires
quotient-requires c =
    let fits =
    numeral_quotient_fits {d = 1000000000000} (lits tt) (span_point c.args.a {l = 0} {h = 8388607} (omega arith) (omega arith))
    (span_point c.args.d {l = 1} {h = c.args.d} (omega arith) (omega arith)) in
    rw (c.point-2.ensures, c.point.ensures) (record { pos_bound = fits.0; scale_bound = fits.1 })

pub returns : goal.returns
unfolding per_metre
returns c = cc
