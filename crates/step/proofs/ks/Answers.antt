-- `ks` divides by π.
use Rattle.interval.proofs.{Rules.{lits}, NumeralSpans.{numeral_quotient_fits}}
use Rattle.enclosure.proofs.Constants.{π_span}
use Rattle.step.specs.Ends.{ks_ends}
use Rattle.step.proofs.{FactorSpans.{sum_span}}
use Rattle.step.proofs.ks.Goals as goal

pub quotient-requires : goal.quotient-requires
quotient-requires c =
    let fits = numeral_quotient_fits {d = 10000000} (lits tt) (sum_span c.requires.bounds) π_span in
    rw (c.pi.ensures, c.spacing_sum.ensures) (record { pos_bound = fits.0; scale_bound = fits.1 })

pub returns : goal.returns
unfolding ks_ends
returns c = cc
