-- `drive` multiplies Ki by ρ·IG; the product is wide.
use Rattle.effective_number.proofs.{NumberSpans.{n_span}, NumberEnclosed.{counts}}
use Rattle.drive.specs.Ends.{drive_ends}
use Rattle.drive.proofs.{Spans.{drive_wide}}
use Rattle.drive.proofs.drive.Goals as goal

pub ki-requires : goal.ki-requires
ki-requires c = rw c.requires.n_value (n_span (counts c.requires.bounds))

pub soil_current-requires : goal.soil_current-requires
soil_current-requires c = record { bounds = c.requires.bounds; current_value = c.requires.current_value }

pub wide_product-requires : goal.wide_product-requires
wide_product-requires c =
    rw (c.soil_current.ensures, c.ki.ensures, c.requires.n_value) (drive_wide c.requires.bounds)

pub returns : goal.returns
unfolding drive_ends
returns c =
    rw (c.wide_product.ensures, c.soil_current.ensures, c.ki.ensures, c.requires.n_value)
