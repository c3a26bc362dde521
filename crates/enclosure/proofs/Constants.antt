-- π and √20, computed.
use mathlib.Core.Path.{refl}
use lib.Dec.{lit<, lit≤}
use Rattle.interval.{specs.{Operations.{natural}, Span.{Span}}, proofs.{Rules.{lits}, NumeralSpans.{numeral_natural}}}
use Rattle.exact.specs.{Fraction.{whole, top}, Exact.{exactly}, Root.{root}, Pi.{π}, Reported.{ten, over, reported}}
use Rattle.exact.proofs.{Computed.{within_π}, Inclusion.{within_trans}}
use Rattle.enclosure.specs.{Enclosure.{Encloses}, Pi.{π_below, π_above, π_ends}}
use Rattle.enclosure.proofs.Roots.{encloses_root_of}

-- in 10^-9
pub π_encloses : Encloses π (ten 9) π_ends
unfolding π_ends natural reported over ten
π_encloses = record { within = within_trans within_π (record { low = record { le = lit≤ tt }; high = record { le = lit≤ tt } }) }

pub π_span : Span π_ends 3141592653 3141592654 1
unfolding π_ends
π_span = numeral_natural π_below π_above (lits tt)

-- in 10^-9
pub √20_encloses : Encloses (root 2 (exactly (whole 20))) (ten 9) (natural 4472135954 4472135955)
unfolding whole top ten
√20_encloses = encloses_root_of 2 (whole 20) (ten 9) 4472135954 4472135955 1000 (lit≤ tt) refl (lit≤ tt) (lit< tt)
