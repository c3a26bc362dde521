-- `spacing_share` is by the power of two of a square, else by the half-power.
use native.Mathlib.Omega.{arith}
use lib.Dec.{lit<}
use borrow.Author.Tests.{eq-eqb, ne_eqb}
use Rattle.interval.proofs.{Fits.{fits_below}, SpanFits.{sum_fits}, Rules.{lits}, NumeralSpans.{numeral_quotient_fits}}
use Rattle.effective_number.proofs.NumberEnclosed.{counts}
use Rattle.conductors.proofs.WeightWidths.{half_span}
use Rattle.step.specs.Ends.{share_ends}
use Rattle.step.proofs.FactorSpans.{power_bounds, divisor_bounds, one_span, rest_span, space_span}
use Rattle.step.proofs.spacing_share.Goals as goal

pub overflow_sub-p : goal.overflow_sub-p
overflow_sub-p c = rw c.power_of_two-p.ensures (power_bounds c.requires.bounds).low

pub overflow_mul-p : goal.overflow_mul-p
overflow_mul-p c = rw c.power_of_two-p.ensures (fits_below (divisor_bounds c.requires.bounds).high (lit< tt))

pub per_metre-requires : goal.per_metre-requires
per_metre-requires c =
    let b = c.requires.bounds in
    let d = divisor_bounds b in
    rw c.power_of_two-p.ensures (record {
      a_bound = omega (arith, (power_bounds b).low, (power_bounds b).high);
      d_nonzero = (omega (arith, d.low), omega (arith, d.high));
    })

pub returns-then-c : goal.returns-then-c
unfolding share_ends
returns-then-c c = rw (eq-eqb _ _ c.if-c.true) (cc)

pub difference-rest-requires : goal.difference-rest-requires
difference-rest-requires c =
    rw (c.point.ensures, c.requires.by_value)
    (sum_fits (lit< tt) one_span (half_span (counts c.requires.bounds) (ne_eqb _ _ c.if-c.false)))

pub quotient-requires : goal.quotient-requires
quotient-requires c =
    let b = c.requires.bounds in
    let fits = numeral_quotient_fits {d = 1000} (lits tt) (rest_span b (ne_eqb _ _ c.if-c.false)) (space_span b) in
    rw (c.point-2.ensures, c.difference-rest.ensures, c.point.ensures, c.requires.by_value) (record { pos_bound = fits.0; scale_bound = fits.1 })

pub returns : goal.returns
unfolding share_ends
returns c =
    rw (
      ne_eqb _ _ c.if-c.false,
      c.quotient.ensures,
      c.point-2.ensures,
      c.difference-rest.ensures,
      c.point.ensures,
      c.requires.by_value,
    )
