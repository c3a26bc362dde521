-- `header::names::name` reads the table of names at the place of the name.
use Rattle.header.proofs.NameTable.{place_spells, place_short}
use Rattle.header.proofs.names.name.Goals as goal

pub shared_ref_as_front-result : goal.shared_ref_as_front-result
shared_ref_as_front-result c = rw c.all_names.ensures (place_short _ c.place.ensures)

pub returns : goal.returns
returns c = rw c.all_names.ensures (place_spells _ c.place.ensures).is
