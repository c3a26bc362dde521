-- `inner_term` keeps within 64 bits by the spans of its parts.
use native.Mathlib.{Omega.{arith}, Nat.{mul-le-mul}}
use lib.Dec.{lit<}
use Rattle.interval.proofs.{Span.{span_size}, Rules.{lits}, NumeralSpans.{numeral_quotient_fits}}
use Rattle.mesh.specs.Factor.{inner_term}
use Rattle.mesh.proofs.FactorSpans.{depth_span, kii_span, ratio_span, spread_size}
use Rattle.mesh.proofs.factor.inner_term.Goals as goal

pub quotient-ratio-requires : goal.quotient-ratio-requires
quotient-ratio-requires c =
    let fits = numeral_quotient_fits {d = 1000000000} (lits tt) (kii_span c.requires.bounds) (depth_span c.requires.bounds) in
    rw (c.kh.ensures, c.kii.ensures) (record { pos_bound = fits.0; scale_bound = fits.1 })

pub product-requires : goal.product-requires
product-requires c =
    rw (c.quotient-ratio.ensures, c.kh.ensures, c.kii.ensures, c.requires.by_value)
    (lit< tt, omega (arith, mul-le-mul (span_size (ratio_span c.requires.bounds)) (spread_size c.requires.bounds)))

pub returns : goal.returns
unfolding inner_term
returns c =
    rw (c.product.ensures, c.quotient-ratio.ensures, c.kh.ensures, c.kii.ensures, c.requires.by_value)
