-- `mesh_voltage` multiplies by Km.
use lib.Dec.{lit<}
use Rattle.interval.proofs.SpanFits.{product_fits}
use Rattle.mesh.specs.Ends.{mesh_ends}
use Rattle.mesh.proofs.{FactorSpans.{factor_span}, DrivenWidths.{driven_span}}
use Rattle.mesh.proofs.mesh_voltage.Goals as goal

pub driven-requires : goal.driven-requires
driven-requires c = record { bounds = c.requires.bounds; length_len = c.requires.length_len; drive_value = c.requires.drive_value }

pub product-requires : goal.product-requires
product-requires c =
    rw (c.requires.factor_value, c.driven.ensures) (product_fits (lit< tt) (lit< tt) (driven_span c.requires.bounds) (factor_span c.requires.bounds))

pub returns : goal.returns
unfolding mesh_ends
returns c = rw (c.product.ensures, c.driven.ensures, c.requires.factor_value)
